-- A stream and the lines of its frames say the same.
use Rattle.std.proofs.Common.{◌≡◌, ◌≢◌, ℕ, zero, suc, ◌+◌, ◌-◌, ◌*◌, ◌<◌, ◌≤◌, ◌==◌, ◌&&◌, ◌||◌, nat_le, nat_lt, not, Bool, true, false}
use Rattle.std.proofs.Common.{List, [], ◌∷◌, ◌++◌, length, map, drop, ap, ap₂, sym, ◌∙◌, refl, arith, subst, All, inl, inr}
use Rattle.std.proofs.Common.{Option, None, Some, option_map, append_assoc, length-append, ◌⊎◌}
use Rattle.std.specs.Prelude.{codes, decimal, slice_index, Result, Ok}
use Rattle.std.specs.List.{list_all}
use Rattle.std.specs.Option.{option_or}
use Rattle.std.specs.Result.{result_unwrap_or}
use Rattle.std.specs.Str.Lines.{lines, strip_carriage_return}
use Rattle.std.proofs.lemmas.Bool.{le-leb, leb-true, le-ltb, ne_eqb, eq-eqb, and_parts, cases_lt}
use Rattle.std.proofs.lemmas.List.{get_or_past}
use Rattle.std.proofs.lemmas.Fmt.{digits_decimal, digits_value-decimal, decimal_nonempty, length-decimal-le}
use Rattle.std.proofs.lemmas.List.Elements.{All-append, All-cons, All-nil, All-weaker}
use Rattle.std.proofs.lemmas.Str.Parse.{IsNumeralModel, IsDigitsTest, FoldsDigits, numerals_by_fold}
use Rattle.hex.specs.Hex.{encode_lower, decode_of, is_hex_digit}
use Rattle.hex.specs.declared.error.FromHexError.{FromHexError}
use Rattle.hex.proofs.HexLemmas.{decode_of-ok, decode_of-encode_lower}
use Rattle.law_rates.specs.Rates.{IsRate, RateFrame, count_of, due_of, frame_at}
use Rattle.law_rates.specs.Places.{frames_from}
use Rattle.law_rates.specs.declared.rate_frames.Rate.{Rate}
use Rattle.law_rates.proofs.RateCountLaws.{due_first, from_first, from_end, from_next, some_frames}
use Rattle.law_model.specs.Common.{IsItem, longest_offer, most_items, most_ticks}
use Rattle.law_model.specs.declared.script_types.Item.{Item}
use Rattle.law_model.specs.declared.script_types.Script.{Script}
use Rattle.law_model.specs.declared.script_types.ItemKind.{ItemKind}
use Rattle.law_model.specs.declared.script_types.ItemKind.TheVariants as item
use Rattle.law_model.specs.session.Items.{stream_item, stream_items}
use Rattle.text_lines.specs.Cut.{Lacks}
use Rattle.text_lines.specs.Fields.{within, digits, where_true, number_fault, octets_fault, fields_fault}
use Rattle.text_lines.specs.FirstFault.{AreSound}
use Rattle.text_lines.specs.WordsOfLine.{words, word_at, is_skipped, is_digit, is_number, number_of, number_after, octets_of}
use Rattle.text_lines.specs.declared.text_faults.FieldFault.TheVariants as field
use Rattle.text_lines.proofs.TextLineAndWordLaws.{lines_cut, words_front, words_only}
use Rattle.text_scripts.specs.rate_load.RateTexts.{start_of, lines_of, rate_text}
use Rattle.text_scripts.specs.declared.script_read.script_fault.LineFault.TheVariants as wrong
use Rattle.text_scripts.specs.declared.script_read.script_keyword.Keyword.{Keyword}
use Rattle.text_scripts.specs.declared.script_read.script_keyword.Keyword.TheVariants as word
use Rattle.text_scripts.specs.declared.script_read.script_draft.Draft.{Draft}
use Rattle.text_scripts.specs.declared.script_read.script_draft.Statement.{Statement}
use Rattle.text_scripts.specs.declared.script_read.script_draft.Statement.TheVariants as says
use Rattle.text_scripts.specs.script_read.Statements.{place_fault, awaited, behind_fault, rest_fault}
use Rattle.text_scripts.specs.script_read.Statements.{full_fault, early_fault, keyword_of, words_fault, words_said, known_said}
use Rattle.text_scripts.specs.script_read.Statements.{after, at_first, rate_in}
use Rattle.text_scripts.specs.script_read.Drafts.{IsDraft, Fits, IsNextStream}
use Rattle.text_scripts.specs.script_read.Script.{script_lines, script_of}
use Rattle.text_scripts.specs.script_read.Written.{written, written_by, all_written}
use Rattle.text_scripts.proofs.RateTextLaws.{no_lines, lines_next}
use Rattle.text_scripts.proofs.StreamItemLaws.{frame_item, due_later}
use Rattle.text_scripts.proofs.ScriptDraftGrowthLaws.{IsDraft-first, IsDraft-after}
use Rattle.text_scripts.proofs.StatementAndWordFaultLaws.{fits_words}
use Rattle.text_scripts.proofs.ScriptLineAndFirstFaultLaws.{said_script}

-- ---- decimal digits
pub are_digits_test : IsDigitsTest (λ w. list_all is_digit w ≡ true)
are_digits_test = record {
  empty = refl;
  parts = λ c cs all.
      let both = and_parts (is_digit c) (list_all is_digit cs) all in
      let ends = and_parts (nat_le 48 c) (nat_le c 57) both.0 in
      ((leb-true 48 c ends.0, leb-true c 57 ends.1), both.1);
  more = λ c cs range all. rw (le-leb 48 c range.0, le-leb c 57 range.1) all;
}

folds : FoldsDigits number_after
folds = record {
  empty = λ n. refl;
  more = λ n c cs range. ap (λ (m : ℕ). number_after m cs) (let e : 10 * n + (c - 48) ≡ n * 10 + (c - 48) = omega arith in e);
}

pub numerals : IsNumeralModel (λ w. list_all is_digit w ≡ true) (number_after 0)
numerals = numerals_by_fold (λ w. list_all is_digit w ≡ true) are_digits_test number_after folds

pub decimal_number : (n : ℕ) → n < 10000000000 → is_number (decimal n) ≡ true
decimal_number n small =
    let some = decimal_nonempty n (omega (arith, small)) in
    let short = length-decimal-le 10 n (omega arith) (omega (arith, small)) (omega (arith, small)) in
    rw (le-leb 1 (length (decimal n)) some, le-leb (length (decimal n)) 10 short)
    (digits_decimal numerals n (omega (arith, small)))

pub decimal_value : (n : ℕ) → n < 10000000000 → number_of (decimal n) ≡ n
decimal_value n small = digits_value-decimal numerals n (omega (arith, small))

-- ---- characters that a line of a frame lacks
pub lacks_by : (c : ℕ) (w : List ℕ) → list_all (λ d. not (d == c)) w ≡ true → Lacks c w
lacks_by c [] all = All-nil (λ d. d ≢ c)
lacks_by c (d ∷ w) all =
    let both = and_parts (not (d == c)) (list_all (λ d. not (d == c)) w) all in
    All-cons (λ d. d ≢ c) d w (λ e. (let bad : false ≡ true = rw (eq-eqb d c e) at both.0 in cc)) (lacks_by c w both.1)

pub digits_lack : (c : ℕ) (w : List ℕ) → c < 48 → list_all is_digit w ≡ true → Lacks c w
digits_lack c [] low all = All-nil (λ d. d ≢ c)
digits_lack c (d ∷ w) low all =
    let both = and_parts (is_digit d) (list_all is_digit w) all in
    let least = leb-true 48 d (and_parts (nat_le 48 d) (nat_le d 57) both.0).0 in
    All-cons (λ d. d ≢ c) d w (λ e. omega (arith, e, least, low)) (digits_lack c w low both.1)

-- the digits of octets
module _ (octets : List ℕ) (bytes : All (λ o. o < 256) octets) where
  pub are_bytes : (i : ℕ) → slice_index octets i < 256
  are_bytes i =
      elim (cases_lt i (length octets)) [
        | inl less ↦ bytes i 0 less
        | inr past ↦ (let none = get_or_past octets i 0 past in omega (arith, none))
      ]

  pub decoded : decode_of (encode_lower octets) ≡ Ok octets
  decoded = decode_of-encode_lower octets are_bytes

  hex_lacks : (c : ℕ) → is_hex_digit c ≡ false → Lacks c (encode_lower octets)
  hex_lacks c other =
      All-weaker (λ d. is_hex_digit d ≡ true) (λ d. d ≢ c)
      (λ d digit e. (let bad : true ≡ false = sym digit ∙ ap is_hex_digit e ∙ other in cc)) (encode_lower octets)
      (decode_of-ok (encode_lower octets) octets decoded).1

  pub length-hex : length (encode_lower octets) ≡ 2 * length octets
  length-hex = (decode_of-ok (encode_lower octets) octets decoded).2

  pub same_octets : octets_of (encode_lower octets) ≡ octets
  same_octets = ap (λ (r : Result (List ℕ) FromHexError). result_unwrap_or r []) decoded

  -- ---- the line of a frame
  module _ (due : ℕ) (small : due < 10000000000) (some : 1 ≤ length octets) where
    due_lacks : (c : ℕ) → c < 48 → Lacks c (decimal due)
    due_lacks c low = digits_lack c (decimal due) low (digits_decimal numerals due (omega (arith, small)))

    abbrev frame_line : List ℕ
    frame_line = start_of due ++ encode_lower octets

    line_lacks : (c : ℕ) → c < 48 → is_hex_digit c ≡ false → Lacks c (codes "frame ") → Lacks c (codes " ") →
        Lacks c frame_line
    line_lacks c low other front space =
        All-append (λ d. d ≢ c) (start_of due) (encode_lower octets)
        (All-append (λ d. d ≢ c) (codes "frame ") (decimal due ++ codes " ") front
        (All-append (λ d. d ≢ c) (decimal due) (codes " ") (due_lacks c low) space)) (hex_lacks c other)

    whole_line : frame_line ≡ strip_carriage_return frame_line
    whole_line =
        let size = length-append (start_of due) (encode_lower octets) in
        let long = length-hex in
        let last : slice_index frame_line (length frame_line - 1) ≢ 13 =
        line_lacks 13 (omega arith) refl (lacks_by 13 (codes "frame ") refl) (lacks_by 13 (codes " ") refl)
        (length frame_line - 1) 0 (omega (arith, size, long, some)) in
        sym (rw (ne_eqb (slice_index frame_line (length frame_line - 1)) 13 last) refl)

    first_line : (more : List ℕ) → lines ((start_of due ++ encode_lower octets ++ codes "\n") ++ more) ≡ frame_line ∷ lines more
    first_line more =
        lines_cut ((start_of due ++ encode_lower octets ++ codes "\n") ++ more) frame_line more frame_line
        (line_lacks 10 (omega arith) refl (lacks_by 10 (codes "frame ") refl) (lacks_by 10 (codes " ") refl))
        (append_assoc frame_line (codes "\n") more)
        whole_line

    pub line_words : words frame_line ≡ codes "frame" ∷ decimal due ∷ encode_lower octets ∷ []
    line_words =
        let hex = encode_lower octets in
        ap (λ (l : List ℕ). words (codes "frame " ++ l)) (append_assoc (decimal due) (codes " ") hex)
        ∙ words_front (codes "frame") (decimal due ++ 32 ∷ hex) (lacks_by 32 (codes "frame") refl) (omega arith)
        ∙ ap (λ (ws : List (List ℕ)). codes "frame" ∷ ws)
        (words_front (decimal due) hex (due_lacks 32 (omega arith)) (decimal_nonempty due (omega (arith, small)))
        ∙ ap (λ (ws : List (List ℕ)). decimal due ∷ ws)
        (words_only hex (hex_lacks 32 refl) (let long = length-hex in omega (arith, long, some))))

-- ---- tests that find nothing
pub or_fine : {T : Type 0} (f g : Option T) → f ≡ None → g ≡ None → option_or f g ≡ None
or_fine f g a b = ap (λ x. option_or x g) a ∙ b

pub where_fine : {K : Type 0} (b : Bool) (fault : K) → b ≡ false → where_true b fault ≡ None
where_fine b fault e = ap (λ x. where_true x fault) e

pub number_fine : (at least most : ℕ) (w : List ℕ) → is_number w ≡ true → least ≤ number_of w → number_of w ≤ most →
    number_fault at least most w ≡ None
number_fine at least most w number low high =
    or_fine (where_true (not (is_number w)) (field.Number at))
    (where_true (not (nat_le least (number_of w) && nat_le (number_of w) most)) (field.Range at least most))
    (where_fine (not (is_number w)) (field.Number at) (ap not number))
    (where_fine (not (nat_le least (number_of w) && nat_le (number_of w) most)) (field.Range at least most)
    (ap₂ (λ a b. not (a && b)) (le-leb least (number_of w) low) (le-leb (number_of w) most high)))

place_fine : (d : Draft) → 6 ≤ d.next → d.next ≤ 8 → place_fault d word.Frame ≡ None
place_fine d low high =
    let next = d.next in
    or_fine (where_true (nat_lt next 6 && not (8 == next || (next == 0 && 8 == 1))) (wrong.Missing (awaited next)))
    (where_true (nat_lt 8 next) (behind_fault d word.Frame))
    (where_fine (nat_lt next 6 && not (8 == next || (next == 0 && 8 == 1))) (wrong.Missing (awaited next))
    (rw (le-ltb next 6 low) refl))
    (where_fine (nat_lt 8 next) (behind_fault d word.Frame) (le-ltb 8 next high))

-- ---- the line of a frame in a draft
pub record TakesFrame (d : Draft) (due : ℕ) (octets : List ℕ) : Type 0 where
  pub low : 6 ≤ d.next
  pub high : d.next ≤ 8
  pub ticks : d.config.ticks ≤ most_ticks
  pub fits : IsItem d.config.ticks (record { due = due; kind = item.Frame octets })
  pub room : length d.items < most_items
  pub order : d.frame_due ≤ due

frame_rest : (d : Draft) (due : ℕ) (octets : List ℕ) → TakesFrame d due octets →
    rest_fault d word.Frame (decimal due ∷ encode_lower octets ∷ []) ≡ None
frame_rest d due octets takes =
    let hex = encode_lower octets in
    let ws = decimal due ∷ hex ∷ [] in
    let fs = within 0 (d.config.ticks - 1) ∷ digits 1 longest_offer ∷ [] in
    let early : due < d.config.ticks = takes.fits.0 in
    let most = takes.ticks in
    let small : due < 10000000000 = omega (arith, early, most) in
    let value = decimal_value due small in
    let size = takes.fits.1.0 in
    let number = number_fault 2 0 (d.config.ticks - 1) (decimal due) in
    let sized : octets_fault 3 1 longest_offer (decode_of hex) ≡ None =
    ap (octets_fault 3 1 longest_offer) (decoded octets takes.fits.1.1)
    ∙ where_fine (not (nat_le 1 (length octets) && nat_le (length octets) longest_offer)) (field.Size 3 1 longest_offer)
    (ap₂ (λ a b. not (a && b)) (le-leb 1 (length octets) size.0) (le-leb (length octets) longest_offer size.1)) in
    let each : fields_fault fs 2 0 ws ≡ None =
    or_fine number (option_or (octets_fault 3 1 longest_offer (decode_of hex)) None)
    (number_fine 2 0 (d.config.ticks - 1) (decimal due) (decimal_number due small) (omega arith)
    (omega (arith, value, early)))
    (or_fine (octets_fault 3 1 longest_offer (decode_of hex)) None sized refl) in
    let full = where_true (nat_lt most_items (length d.items + 1)) (full_fault d word.Frame ws) in
    let late = where_true (nat_lt (number_of (decimal due)) d.frame_due) (early_fault d word.Frame ws) in
    let room = takes.room in
    let order = takes.order in
    or_fine (option_map wrong.Field (fields_fault fs 2 0 ws)) (option_or full late)
    (ap (option_map wrong.Field) each)
    (or_fine full late
    (where_fine (nat_lt most_items (length d.items + 1)) (full_fault d word.Frame ws)
    (le-ltb most_items (length d.items + 1) (omega (arith, room))))
    (where_fine (nat_lt (number_of (decimal due)) d.frame_due) (early_fault d word.Frame ws)
    (le-ltb (number_of (decimal due)) d.frame_due (omega (arith, value, order)))))

pub frame_sound : (d : Draft) (due : ℕ) (octets : List ℕ) → TakesFrame d due octets →
    words_fault d (codes "frame" ∷ decimal due ∷ encode_lower octets ∷ []) ≡ None
frame_sound d due octets takes =
    or_fine (place_fault d word.Frame) (rest_fault d word.Frame (decimal due ∷ encode_lower octets ∷ []))
    (place_fine d takes.low takes.high) (frame_rest d due octets takes)

abbrev pub with_frames : Draft → List Item → ℕ → Draft
with_frames d items due = record d { next = 8; items = d.items ++ items; frame_due = due }

frame_after : (m : ℕ) (d : Draft) (due : ℕ) (octets : List ℕ) → due < 10000000000 → All (λ o. o < 256) octets →
    after m d (words_said (codes "frame" ∷ decimal due ∷ encode_lower octets ∷ []))
    ≡ with_frames d (record { due = due; kind = item.Frame octets } ∷ []) due
frame_after m d due octets small bytes =
    ap₂ (λ (n : ℕ) (l : List ℕ). with_frames d (record { due = n; kind = item.Frame l } ∷ []) n)
    (decimal_value due small) (same_octets octets bytes)

-- one line more
frame_read : (m : ℕ) (d now : Draft) (f : RateFrame) (ls : List (List ℕ)) → TakesFrame d f.due f.octets →
    AreSound script_lines (m + 1) (with_frames d (stream_item f ∷ []) f.due) ls now →
    AreSound script_lines m d ((start_of f.due ++ encode_lower f.octets) ∷ ls) now
unfolding AreSound
frame_read m d now f ls takes sound =
    let early : f.due < d.config.ticks = takes.fits.0 in
    let most = takes.ticks in
    let small : f.due < 10000000000 = omega (arith, early, most) in
    let bytes = takes.fits.1.1 in
    let some = takes.fits.1.0.0 in
    let are = line_words f.octets bytes f.due small some in (
      ap (words_fault d) are ∙ frame_sound d f.due f.octets takes,
      subst (λ (x : Draft). AreSound script_lines (m + 1) x ls now)
          (sym (ap (λ (ws : List (List ℕ)). after m d (words_said ws)) are
          ∙ frame_after m d f.due f.octets small bytes)) sound,
    )

-- ---- all frames of a rate, from one on
record TakesStream (d : Draft) (rate : Rate) (k : ℕ) : Type 0 where
  low : 6 ≤ d.next
  high : d.next ≤ 8
  ticks : d.config.ticks ≤ most_ticks
  ends : rate.end ≤ d.config.ticks
  sound : IsRate rate
  room : length d.items + count_of rate ≤ most_items + k
  order : d.frame_due ≤ due_of rate k

takes_frame : (d : Draft) (rate : Rate) (k : ℕ) → k < count_of rate → TakesStream d rate k →
    TakesFrame d (due_of rate k) (frame_at rate k).octets
takes_frame d rate k inside takes =
    let room = takes.room in
    record {
      low = takes.low;
      high = takes.high;
      ticks = takes.ticks;
      fits = frame_item rate d.config.ticks k takes.sound takes.ends inside;
      room = omega (arith, room, inside);
      order = takes.order;
    }

pub from_here : (rate : Rate) (k : ℕ) → k < count_of rate → frames_from rate k ≡ frame_at rate k ∷ frames_from rate (suc k)
from_here rate k inside = from_next rate k (suc k) (due_of rate k) (frame_at rate k).octets inside refl refl refl

pub lines_here : (rate : Rate) (k : ℕ) → k < count_of rate → IsItem most_ticks (stream_item (frame_at rate k)) →
    lines (lines_of (frames_from rate k))
    ≡ (start_of (due_of rate k) ++ encode_lower (frame_at rate k).octets) ∷ lines (lines_of (frames_from rate (suc k)))
lines_here rate k inside fits =
    let f : RateFrame = frame_at rate k in
    let early : f.due < most_ticks = fits.0 in
    ap (λ (fs : List RateFrame). lines (lines_of fs)) (from_here rate k inside)
    ∙ ap lines (lines_next f (frames_from rate (suc k)))
    ∙ first_line f.octets fits.1.1 f.due (omega (arith, early)) fits.1.0.0 (lines_of (frames_from rate (suc k)))

frames_read : (rate : Rate) (n k m : ℕ) (d now : Draft) (rest : List (List ℕ)) → k + n + 1 ≡ count_of rate →
    TakesStream d rate k →
    ((j : ℕ) → AreSound script_lines j
    (with_frames d (map stream_item (frames_from rate k)) (due_of rate (count_of rate - 1))) rest now) →
    AreSound script_lines m d (lines (lines_of (frames_from rate k)) ++ rest) now
frames_read rate zero k m d now rest size takes sound =
    let inside : k < count_of rate = omega (arith, size) in
    let f : RateFrame = frame_at rate k in
    let last : count_of rate - 1 ≡ k = omega (arith, size) in
    let none = from_end rate (suc k) (omega (arith, size)) in
    let one : frames_from rate k ≡ f ∷ [] = from_here rate k inside ∙ ap (λ (fs : List RateFrame). f ∷ fs) none in
    let line = start_of f.due ++ encode_lower f.octets in
    let is_line : lines (lines_of (frames_from rate k)) ≡ line ∷ [] =
    lines_here rate k inside (frame_item rate most_ticks k takes.sound takes.sound.end inside)
    ∙ ap (λ (fs : List RateFrame). line ∷ lines (lines_of fs)) none ∙ ap (λ (t : List ℕ). line ∷ lines t) no_lines in
    subst (λ (ls : List (List ℕ)). AreSound script_lines m d (ls ++ rest) now) (sym is_line)
    (frame_read m d now f rest (takes_frame d rate k inside takes)
    (subst (λ (x : Draft). AreSound script_lines (m + 1) x rest now)
    (ap₂ (λ (fs : List RateFrame) (due : ℕ). with_frames d (map stream_item fs) due) one (ap (due_of rate) last))
    (sound (m + 1))))
frames_read rate (suc n) k m d now rest size takes sound =
    let inside : k < count_of rate = omega (arith, size) in
    let f : RateFrame = frame_at rate k in
    let line = start_of f.due ++ encode_lower f.octets in
    let later = frames_from rate (suc k) in
    let last = due_of rate (count_of rate - 1) in
    let next : Draft = with_frames d (stream_item f ∷ []) f.due in
    let one = takes_frame d rate k inside takes in
    let room = takes.room in
    let long = length-append d.items (stream_item f ∷ []) in
    let other : TakesStream next rate (suc k) = record {
      low = omega arith;
      high = omega arith;
      ticks = takes.ticks;
      ends = takes.ends;
      sound = takes.sound;
      room = omega (arith, room, long);
      order = due_later rate k (suc k) takes.sound (omega arith) (omega (arith, size));
    } in
    subst (λ (ls : List (List ℕ)). AreSound script_lines m d (ls ++ rest) now)
    (sym (lines_here rate k inside (frame_item rate most_ticks k takes.sound takes.sound.end inside)))
    (frame_read m d now f (lines (lines_of later) ++ rest) one
    (frames_read rate n (suc k) (m + 1) next now rest (omega (arith, size)) other
    (λ j. subst (λ (x : Draft). AreSound script_lines j x rest now)
    (ap (λ (fs : List RateFrame). with_frames d (map stream_item fs) last) (from_here rate k inside)
    ∙ sym (ap (λ (items : List Item). record d { next = 8; items = items; frame_due = last })
    (append_assoc d.items (stream_item f ∷ []) (map stream_item later)))) (sound j))))

-- ---- a stream, and the lines of its frames
stream_read : (m : ℕ) (d now : Draft) (rate : Rate) (rest : List (List ℕ)) → IsDraft d → 6 ≤ d.next → d.next ≤ 8 →
    IsNextStream d rate →
    ((j : ℕ) → AreSound script_lines j (with_frames d (stream_items rate) (due_of rate (count_of rate - 1))) rest now) →
    AreSound script_lines m d (lines (rate_text rate) ++ rest) now
stream_read m d now rate rest is low high next sound =
    let some = some_frames rate next.sound in
    let all = from_first rate 0 refl in
    let takes : TakesStream d rate 0 = record {
      low = low;
      high = high;
      ticks = (is.config.ticks low).1;
      ends = next.ends;
      sound = next.sound;
      room = (let room = next.room in omega (arith, room));
      order = (let order = next.order in omega (arith, order, due_first rate));
    } in
    subst (λ (fs : List RateFrame). AreSound script_lines m d (lines (lines_of fs) ++ rest) now) all
    (frames_read rate (count_of rate - 1) 0 m d now rest (omega (arith, some)) takes
    (λ j. subst (λ (fs : List RateFrame). AreSound script_lines j
    (with_frames d (map stream_item fs) (due_of rate (count_of rate - 1))) rest now) (sym all) (sound j)))

-- ---- any line
-- behind the first item a line adds the same whatever its number
record AddsAlike (n m : ℕ) (d : Draft) (said : Statement) : Type 0 where
  same : after m d said ≡ after n d said
  late : 8 ≤ (after n d said).next

item_alike : (n m : ℕ) (d : Draft) (due : ℕ) (kind : ItemKind) → AddsAlike n m d (says.Item (record { due = due; kind = kind }))
item_alike n m d due (item.Frame octets) = record { same = refl; late = omega arith }
item_alike n m d due (item.Add line) = record { same = refl; late = omega arith }
item_alike n m d due (item.Remove line) = record { same = refl; late = omega arith }

adds_alike : (n m : ℕ) (d : Draft) (said : Statement) → 8 ≤ d.next → Fits d said → AddsAlike n m d said
adds_alike n m d says.Nothing late fits = record { same = refl; late = late }
adds_alike n m d (says.Fail line window) late fits = absurd (let high = fits.1 in omega (arith, late, high))
adds_alike n m d (says.Lost first end) late fits = absurd (let high = fits.1 in omega (arith, late, high))
adds_alike n m d (says.Item it) late fits = item_alike n m d it.due it.kind
adds_alike n m d (says.Stream rate) late fits = record { same = refl; late = omega arith }
adds_alike n m d (says.Event e) late fits = record { same = refl; late = omega arith }
adds_alike n m d said late fits = absurd (let at = fits.0 in omega (arith, late, at))

-- lines that are numbered anew say the same where their numbers are the same, or behind the first item
abbrev pub MayMove : ℕ → ℕ → Draft → Type 0
MayMove n m d = (m ≡ n) ⊎ (8 ≤ d.next)

-- a line that stays
module _ (m : ℕ) (d now : Draft) (l : List ℕ) (rest : List (List ℕ)) (none : words_fault d (words l) ≡ None)
    (sound : (j : ℕ) → MayMove (m + 1) j (after m d (words_said (words l))) →
    AreSound script_lines j (after m d (words_said (words l))) rest now) where
  kept : AreSound script_lines m d (l ∷ [] ++ rest) now
  unfolding AreSound
  kept = (none, sound (m + 1) (inl refl))

  by_keyword : (ws : List (List ℕ)) (k : Option Keyword) → IsDraft d → words_said (words l) ≡ known_said ws k →
      Fits d (known_said ws k) → AreSound script_lines m d (written_by l ws k ++ rest) now
  by_keyword ws (Some word.Stream) is said fits =
      stream_read m d now (rate_in ws) rest is fits.0 fits.1 fits.2
      (λ j. subst (λ s. AreSound script_lines j (after m d s) rest now) said
      (sound j (inr (subst (λ s. 8 ≤ (after m d s).next) (sym said) (omega arith)))))
  by_keyword ws k is said fits = kept

  by_first : (skipped : Bool) → is_skipped (words l) ≡ skipped → IsDraft d →
      AreSound script_lines m d (written l ++ rest) now
  by_first true skips is = rw skips kept
  by_first false says is =
      let said : words_said (words l) ≡ known_said (drop 1 (words l)) (keyword_of (word_at 0 (words l))) =
      rw says refl in
      let fits = subst (Fits d) said (fits_words d (words l) is none) in
      rw says (by_keyword (drop 1 (words l)) (keyword_of (word_at 0 (words l))) is said fits)

-- the lines behind one may move on where it may
pub moves_on : (n m j : ℕ) (d : Draft) (said : Statement) → MayMove n m d → Fits d said →
    MayMove (m + 1) j (after m d said) → (after m d said ≡ after n d said) × MayMove (n + 1) j (after n d said)
moves_on n m j d said (inl same) fits near =
    let e : after m d said ≡ after n d said = ap (λ (k : ℕ). after k d said) same in (
      e,
      elim near [
        | inl next ↦ inl (omega (arith, next, same))
        | inr late ↦ inr (subst (λ (x : Draft). 8 ≤ x.next) e late)
      ],
    )
moves_on n m j d said (inr late) fits near =
    let alike = adds_alike n m d said late fits in (alike.same, inr alike.late)

all_read : (ls : List (List ℕ)) (n m : ℕ) (d now : Draft) → IsDraft d → MayMove n m d →
    AreSound script_lines n d ls now → AreSound script_lines m d (all_written ls) now
unfolding AreSound all_written
all_read [] n m d now is may sound = sound
all_read (l ∷ ls) n m d now is may sound =
    let said = words_said (words l) in
    let fits = fits_words d (words l) is sound.0 in
    by_first m d now l (all_written ls) sound.0
    (λ j near.
    let on = moves_on n m j d said may fits near in
    subst (λ (x : Draft). AreSound script_lines j x (all_written ls) now) (sym on.0)
    (all_read ls (n + 1) j (after n d said) now (IsDraft-after n d said is fits) on.1 sound.1))
    (is_skipped (words l)) refl is

-- ---- the text
pub same_script : (text other : List ℕ) (script : Script) → lines other ≡ all_written (lines text) →
    script_of text ≡ Ok script → script_of other ≡ Ok script
same_script text other script same said =
    let is = (said_script text script).0 said in
    (said_script other script).1 (record {
      now = is.now;
      sound = subst (λ (ls : List (List ℕ)). AreSound script_lines 1 at_first ls is.now) (sym same)
          (all_read (lines text) 1 1 at_first is.now IsDraft-first (inl refl) is.sound);
      whole = is.whole;
      passes = is.passes;
      is = is.is;
    })
