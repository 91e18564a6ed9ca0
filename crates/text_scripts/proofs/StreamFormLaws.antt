-- A script's streams have their form and ranges; and where lines have them and are a script with each stream written
-- out, they are that script as they stand.
use Rattle.std.proofs.Common.{◌≡◌, ◌↔◌, ℕ, zero, suc, ◌+◌, ◌-◌, ◌<◌, ◌≤◌, nat_lt, ◌&&◌, not, Bool, true, false}
use Rattle.std.proofs.Common.{List, [], ◌∷◌, ◌++◌, length, map, drop, ap, ap₂, sym, ◌∙◌, refl, arith, subst, inl, inr}
use Rattle.std.proofs.Common.{Option, None, Some, option_map, append_assoc, length-append}
use Rattle.std.specs.Prelude.{codes, bytes_eq, Ok, if◌then◌else◌}
use Rattle.std.specs.List.{list_all}
use Rattle.std.specs.Option.{option_or}
use Rattle.std.specs.Str.Lines.{lines}
use Rattle.std.proofs.lemmas.Bool.{le-leb, le-ltb, cases_Bool}
use Rattle.std.proofs.lemmas.List.{length-map}
use Rattle.std.proofs.lemmas.List.Elements.{All-cons, All-nil, All-head, All-tail}
use Rattle.std.proofs.lemmas.Slice.Eq.{bytes_eq-Decides}
use Rattle.hex.specs.Hex.{encode_lower}
use Rattle.law_rates.specs.Limits.{most_sizes, most_mbits}
use Rattle.law_rates.specs.Rates.{IsRate, RateFrame, count_of, due_of, frame_at}
use Rattle.law_rates.specs.Places.{frames_from}
use Rattle.law_rates.specs.declared.rate_frames.Rate.{Rate}
use Rattle.law_rates.proofs.RateFrameLaws.{AreSizes}
use Rattle.law_rates.proofs.RateCountLaws.{due_first, from_first, from_end, some_frames}
use Rattle.law_model.specs.Common.{IsItem, most_items, most_ticks, shortest_frame, longest_frame}
use Rattle.law_model.specs.declared.script_types.Item.{Item}
use Rattle.law_model.specs.declared.script_types.Script.{Script}
use Rattle.law_model.specs.declared.script_types.ItemKind.{ItemKind}
use Rattle.law_model.specs.declared.script_types.ItemKind.TheVariants as item
use Rattle.law_model.specs.session.Items.{stream_item}
use Rattle.text_lines.specs.declared.text_faults.FieldFault.TheVariants as field
use Rattle.text_lines.specs.Fields.{within, any, above, where_true, fields_fault}
use Rattle.text_lines.specs.FirstFault.{AreSound}
use Rattle.text_lines.specs.WordsOfLine.{words, word_at, number_at, is_number, number_of, is_skipped}
use Rattle.text_lines.proofs.TextLineAndWordLaws.{or_none}
use Rattle.text_scripts.specs.rate_load.RateTexts.{start_of, lines_of, rate_text}
use Rattle.text_scripts.specs.declared.script_read.script_fault.SizesFault.TheVariants as sizes
use Rattle.text_scripts.specs.declared.script_read.script_fault.LineFault.TheVariants as wrong
use Rattle.text_scripts.specs.declared.script_read.script_keyword.Keyword.{Keyword}
use Rattle.text_scripts.specs.declared.script_read.script_keyword.Keyword.TheVariants as word
use Rattle.text_scripts.specs.declared.script_read.script_draft.Draft.{Draft}
use Rattle.text_scripts.specs.declared.script_read.script_draft.Statement.{Statement}
use Rattle.text_scripts.specs.declared.script_read.script_draft.Statement.TheVariants as says
use Rattle.text_scripts.specs.script_read.Statements.{keyword_of, parts_of, sizes_of, is_size, sizes_fault, are_digits}
use Rattle.text_scripts.specs.script_read.Statements.{long_fault, each_fault, place_fault, rest_fault, words_fault}
use Rattle.text_scripts.specs.script_read.Statements.{words_said, after, after_item, at_first, rate_in}
use Rattle.text_scripts.specs.script_read.Drafts.{IsDraft, Fits}
use Rattle.text_scripts.specs.script_read.Script.{script_lines, script_of}
use Rattle.text_scripts.specs.script_read.Written.{IsStream, IsFormed, AreFormed, written, written_by, all_written}
use Rattle.text_scripts.proofs.RateTextLaws.{no_lines}
use Rattle.text_scripts.proofs.StreamItemLaws.{frame_item}
use Rattle.text_scripts.proofs.StreamWordLaws.{says_rate}
use Rattle.text_scripts.proofs.ScriptDraftGrowthLaws.{IsDraft-first, IsDraft-after}
use Rattle.text_scripts.proofs.StatementAndWordFaultLaws.{fits_words, placed, no_fault}
use Rattle.text_scripts.proofs.ScriptLineAndFirstFaultLaws.{said_script}
use Rattle.text_scripts.proofs.WrittenStreamLaws.{decimal_value, same_octets, line_words, or_fine, where_fine, number_fine}
use Rattle.text_scripts.proofs.WrittenStreamLaws.{with_frames, from_here, lines_here, MayMove, moves_on, same_script}
use Rattle.text_scripts.proofs.TextLineReadLaws.{fields_more, rest_fine}
use Rattle.text_scripts.proofs.NetworkTextReadLaws.{stands_fine, place_later}

-- ---- behind the configuration the number of ticks stays
record Stays (d new : Draft) : Type 0 where
  late : 6 ≤ new.next
  ticks : new.config.ticks ≡ d.config.ticks

item_stays : (d : Draft) (it : Item) (kind : ItemKind) → Stays d (after_item d it kind)
item_stays d it (item.Frame octets) = record { late = omega arith; ticks = refl }
item_stays d it (item.Add line) = record { late = omega arith; ticks = refl }
item_stays d it (item.Remove line) = record { late = omega arith; ticks = refl }

stays : (n : ℕ) (d : Draft) (said : Statement) → 6 ≤ d.next → Fits d said → Stays d (after n d said)
stays n d says.Nothing late fits = record { late = late; ticks = refl }
stays n d (says.Sink infers) late fits = record { late = late; ticks = refl }
stays n d (says.Holdoff packets) late fits = record { late = late; ticks = refl }
stays n d (says.Restore packets) late fits = record { late = late; ticks = refl }
stays n d (says.Statuses count) late fits = record { late = late; ticks = refl }
stays n d (says.Fail line window) late fits = record { late = omega arith; ticks = refl }
stays n d (says.Lost first end) late fits = record { late = omega arith; ticks = refl }
stays n d (says.Item it) late fits = item_stays d it it.kind
stays n d (says.Stream rate) late fits = record { late = omega arith; ticks = refl }
stays n d (says.Event e) late fits = record { late = omega arith; ticks = refl }
stays n d said late fits = absurd (let at = fits.0 in omega (arith, late, at))

same_ticks : (ls : List (List ℕ)) (n : ℕ) (d now : Draft) → IsDraft d → 6 ≤ d.next → AreSound script_lines n d ls now →
    now.config.ticks ≡ d.config.ticks
unfolding AreSound
same_ticks [] n d now is late sound = ap (λ (x : Draft). x.config.ticks) (sym sound)
same_ticks (l ∷ ls) n d now is late sound =
    let said = words_said (words l) in
    let fits = fits_words d (words l) is sound.0 in
    let stay = stays n d said late fits in
    same_ticks ls (n + 1) (after n d said) now (IsDraft-after n d said is fits) stay.late sound.1 ∙ stay.ticks

-- ---- the streams of a script
one_formed : (d : Draft) (ws : List (List ℕ)) → IsDraft d → words_fault d ws ≡ None → word_at 0 ws ≡ codes "stream" →
    (6 ≤ d.next) × IsStream d.config.ticks (drop 1 ws)
one_formed d [] is none begins = absurd cc
one_formed d (w ∷ ws) is none begins =
    let fine : words_fault d (codes "stream" ∷ ws) ≡ None =
    subst (λ (v : List ℕ). words_fault d (v ∷ ws) ≡ None) begins none in
    let parts = or_none (place_fault d word.Stream) (rest_fault d word.Stream ws) fine in
    let late = ((placed d word.Stream parts.0).1 (omega arith)).0 in
    let rest = no_fault d word.Stream ws parts.1 in
    (late, says_rate d ws is late rest.count rest.each)

all_formed : (ls : List (List ℕ)) (n : ℕ) (d now : Draft) → IsDraft d → AreSound script_lines n d ls now →
    AreFormed now.config.ticks ls
unfolding AreSound
all_formed [] n d now is sound = All-nil (IsFormed now.config.ticks)
all_formed (l ∷ ls) n d now is sound =
    let said = words_said (words l) in
    All-cons (IsFormed now.config.ticks) l ls
    (λ begins.
    let formed = one_formed d (words l) is sound.0 begins in
    subst (λ (ticks : ℕ). IsStream ticks (drop 1 (words l)))
    (sym (same_ticks (l ∷ ls) n d now is formed.0 sound)) formed.1)
    (all_formed ls (n + 1) (after n d said) now (IsDraft-after n d said is (fits_words d (words l) is sound.0)) sound.1)

-- ---- words that have their form and ranges have no fault
are_sizes : (ns : List ℕ) → AreSizes ns → list_all is_size ns ≡ true
are_sizes [] are = refl
are_sizes (n ∷ ns) are =
    let one = All-head (λ size. (shortest_frame ≤ size) × (size ≤ longest_frame)) n ns are in
    ap₂ (λ a b. a && b)
    (ap₂ (λ a b. a && b) (le-leb shortest_frame n one.0) (le-leb n longest_frame one.1))
    (are_sizes ns (All-tail (λ size. (shortest_frame ≤ size) × (size ≤ longest_frame)) n ns are))

sizes_fine : (w : List ℕ) → list_all is_number (parts_of w) ≡ true → length (sizes_of w) ≤ most_sizes →
    AreSizes (sizes_of w) → sizes_fault w ≡ None
sizes_fine w numbers few are =
    let form = not (list_all is_number (parts_of w)) in
    let many = nat_lt most_sizes (length (parts_of w)) in
    let range = not (list_all is_size (sizes_of w)) in
    let size = length-map (parts_of w) number_of in
    or_fine (where_true form sizes.Digits) (option_or (where_true many sizes.Count) (where_true range sizes.Range))
    (where_fine form sizes.Digits (ap not numbers))
    (or_fine (where_true many sizes.Count) (where_true range sizes.Range)
    (where_fine many sizes.Count (le-ltb most_sizes (length (parts_of w)) (omega (arith, size, few))))
    (where_fine range sizes.Range (ap not (are_sizes (sizes_of w) are))))

long_fine : (w : List ℕ) → are_digits 20 w ≡ true → number_of w < 18446744073709551616 → long_fault w ≡ None
long_fine w digits below =
    let form = not (are_digits 20 w) in
    let range = nat_lt 18446744073709551615 (number_of w) in
    let most = wrong.Field (field.Range 6 0 18446744073709551615) in
    or_fine (where_true form wrong.LongNumber) (where_true range most)
    (where_fine form wrong.LongNumber (ap not digits))
    (where_fine range most (le-ltb 18446744073709551615 (number_of w) (omega (arith, below))))

each_fine : (d : Draft) (ws : List (List ℕ)) → IsStream d.config.ticks ws → each_fault d word.Stream ws ≡ None
each_fine d (w ∷ m ∷ f ∷ e ∷ n ∷ []) is =
    let ticks = d.config.ticks in
    let fs = within 1 most_mbits ∷ any ∷ above ticks ∷ [] in
    let numbers = m ∷ f ∷ e ∷ n ∷ [] in
    let before = is.rate.before in
    let end = is.rate.end in
    or_fine (option_map wrong.Sizes (sizes_fault w))
    (option_or (option_map wrong.Field (fields_fault fs 3 0 numbers)) (long_fault n))
    (ap (option_map wrong.Sizes) (sizes_fine w is.sizes is.rate.few is.rate.sizes))
    (or_fine (option_map wrong.Field (fields_fault fs 3 0 numbers)) (long_fault n)
    (ap (option_map wrong.Field)
    (fields_more (within 1 most_mbits) (any ∷ above ticks ∷ []) 3 0 m (f ∷ e ∷ n ∷ [])
    (number_fine 3 1 most_mbits m is.mbits is.rate.moves is.rate.slow)
    (fields_more any (above ticks ∷ []) 4 (number_of m) f (e ∷ n ∷ [])
    (number_fine 4 0 9999999999 f is.first (omega arith) (omega (arith, before, end)))
    (fields_more (above ticks) [] 5 (number_of f) e (n ∷ [])
    (number_fine 5 (number_of f + 1) ticks e is.end (omega (arith, before)) is.ends) refl))))
    (long_fine n is.number is.below))
each_fine d ws is = absurd (let five = is.five in omega (arith, five))

-- the first word stands before them
record MayStand (d : Draft) (rate : Rate) : Type 0 where
  low : 6 ≤ d.next
  high : d.next ≤ 8
  room : length d.items + count_of rate ≤ most_items
  order : d.frame_due ≤ rate.first

stream_sound : (d : Draft) (ws : List (List ℕ)) → IsStream d.config.ticks ws → MayStand d (rate_in ws) →
    words_fault d (codes "stream" ∷ ws) ≡ None
stream_sound d ws is may =
    stands_fine d word.Stream ws (place_later d word.Stream may.low may.high)
    (rest_fine d word.Stream ws is.five (each_fine d ws is)
    (le-ltb most_items (length d.items + count_of (rate_in ws)) may.room)
    (le-ltb (number_at 2 ws) d.frame_due may.order))

-- ---- the line of a frame that was read
record FrameRead (m : ℕ) (d now : Draft) (f : RateFrame) (ls : List (List ℕ)) : Type 0 where
  low : 6 ≤ d.next
  high : d.next ≤ 8
  room : length d.items < most_items
  order : d.frame_due ≤ f.due
  is : IsDraft (with_frames d (stream_item f ∷ []) f.due)
  sound : AreSound script_lines (m + 1) (with_frames d (stream_item f ∷ []) f.due) ls now

frame_read : (m : ℕ) (d now : Draft) (f : RateFrame) (ls : List (List ℕ)) → IsItem most_ticks (stream_item f) →
    IsDraft d → AreSound script_lines m d ((start_of f.due ++ encode_lower f.octets) ∷ ls) now →
    FrameRead m d now f ls
unfolding AreSound
frame_read m d now f ls fit is sound =
    let early : f.due < most_ticks = fit.0 in
    let small : f.due < 10000000000 = omega (arith, early) in
    let bytes = fit.1.1 in
    let line = start_of f.due ++ encode_lower f.octets in
    let said : words_said (words line) ≡ says.Item (stream_item f) =
    ap words_said (line_words f.octets bytes f.due small fit.1.0.0)
    ∙ ap₂ (λ (n : ℕ) (l : List ℕ). says.Item (record { due = n; kind = item.Frame l })) (decimal_value f.due small)
    (same_octets f.octets bytes) in
    let fits : Fits d (says.Item (stream_item f)) = subst (Fits d) said (fits_words d (words line) is sound.0) in
    record {
      low = fits.0;
      high = fits.1;
      room = fits.2.room;
      order = fits.2.order;
      is = IsDraft-after m d (says.Item (stream_item f)) is fits;
      sound = subst (λ (s : Statement). AreSound script_lines (m + 1) (after m d s) ls now) said sound.1;
    }

-- ---- those of all frames of a rate, from one on
record StreamRead (d now : Draft) (rate : Rate) (k : ℕ) (rest : List (List ℕ)) : Type 0 where
  low : 6 ≤ d.next
  high : d.next ≤ 8
  room : length d.items + count_of rate ≤ most_items + k
  order : d.frame_due ≤ due_of rate k
  at : ℕ
  sound : AreSound script_lines at
      (with_frames d (map stream_item (frames_from rate k)) (due_of rate (count_of rate - 1))) rest now

first_read : (rate : Rate) (k m : ℕ) (d now : Draft) (rest : List (List ℕ)) → k < count_of rate → IsRate rate →
    IsDraft d → AreSound script_lines m d (lines (lines_of (frames_from rate k)) ++ rest) now →
    FrameRead m d now (frame_at rate k) (lines (lines_of (frames_from rate (suc k))) ++ rest)
first_read rate k m d now rest inside is-rate is sound =
    let fits = frame_item rate most_ticks k is-rate is-rate.end inside in
    frame_read m d now (frame_at rate k) (lines (lines_of (frames_from rate (suc k))) ++ rest) fits is
    (subst (λ (ls : List (List ℕ)). AreSound script_lines m d (ls ++ rest) now) (lines_here rate k inside fits) sound)

frames_read : (rate : Rate) (n k m : ℕ) (d now : Draft) (rest : List (List ℕ)) → k + n + 1 ≡ count_of rate →
    IsRate rate → IsDraft d → AreSound script_lines m d (lines (lines_of (frames_from rate k)) ++ rest) now →
    StreamRead d now rate k rest
frames_read rate zero k m d now rest size is-rate is sound =
    let inside : k < count_of rate = omega (arith, size) in
    let f : RateFrame = frame_at rate k in
    let read = first_read rate k m d now rest inside is-rate is sound in
    let room = read.room in
    let last : k ≡ count_of rate - 1 = omega (arith, size) in
    let none = from_end rate (suc k) (omega (arith, size)) in
    let one : frames_from rate k ≡ f ∷ [] = from_here rate k inside ∙ ap (λ (fs : List RateFrame). f ∷ fs) none in
    let no_more : lines (lines_of (frames_from rate (suc k))) ≡ [] =
    ap (λ (fs : List RateFrame). lines (lines_of fs)) none ∙ ap lines no_lines in
    record {
      low = read.low;
      high = read.high;
      room = omega (arith, room, size);
      order = read.order;
      at = m + 1;
      sound = subst (λ (x : Draft). AreSound script_lines (m + 1) x rest now)
          (ap₂ (λ (fs : List RateFrame) (due : ℕ). with_frames d (map stream_item fs) due) (sym one) (ap (due_of rate) last))
          (subst (λ (ls : List (List ℕ)). AreSound script_lines (m + 1) (with_frames d (stream_item f ∷ []) f.due) (ls ++ rest) now)
          no_more read.sound);
    }
frames_read rate (suc n) k m d now rest size is-rate is sound =
    let inside : k < count_of rate = omega (arith, size) in
    let f : RateFrame = frame_at rate k in
    let later = frames_from rate (suc k) in
    let last = due_of rate (count_of rate - 1) in
    let next : Draft = with_frames d (stream_item f ∷ []) f.due in
    let read = first_read rate k m d now rest inside is-rate is sound in
    let more = frames_read rate n (suc k) (m + 1) next now rest (omega (arith, size)) is-rate read.is read.sound in
    let room = more.room in
    let long = length-append d.items (stream_item f ∷ []) in
    record {
      low = read.low;
      high = read.high;
      room = omega (arith, room, long);
      order = read.order;
      at = more.at;
      sound = subst (λ (x : Draft). AreSound script_lines more.at x rest now)
          (ap (λ (items : List Item). record d { next = 8; items = items; frame_due = last })
          (append_assoc d.items (stream_item f ∷ []) (map stream_item later))
          ∙ sym (ap (λ (fs : List RateFrame). with_frames d (map stream_item fs) last) (from_here rate k inside)))
          more.sound;
    }

-- ---- a line, of which its frames' lines were read or it alone
record LineRead (m : ℕ) (d now : Draft) (l : List ℕ) (rest : List (List ℕ)) : Type 0 where
  none : words_fault d (words l) ≡ None
  at : ℕ
  near : MayMove (m + 1) at (after m d (words_said (words l)))
  sound : AreSound script_lines at (after m d (words_said (words l))) rest now

alone_read : (m : ℕ) (d now : Draft) (l : List ℕ) (rest : List (List ℕ)) → AreSound script_lines m d (l ∷ rest) now →
    LineRead m d now l rest
unfolding AreSound
alone_read m d now l rest sound = record { none = sound.0; at = m + 1; near = inl refl; sound = sound.1 }

stream_read : (m : ℕ) (d now : Draft) (l : List ℕ) (ws rest : List (List ℕ)) → words l ≡ codes "stream" ∷ ws →
    IsDraft d → IsStream now.config.ticks ws → AreSound script_lines m d (lines (rate_text (rate_in ws)) ++ rest) now →
    LineRead m d now l rest
stream_read m d now l ws rest are is formed sound =
    let rate = rate_in ws in
    let last = due_of rate (count_of rate - 1) in
    let some = some_frames rate formed.rate in
    let all = from_first rate 0 refl in
    let read = frames_read rate (count_of rate - 1) 0 m d now rest (omega (arith, some)) formed.rate is
    (subst (λ (fs : List RateFrame). AreSound script_lines m d (lines (lines_of fs) ++ rest) now) (sym all) sound) in
    let ticks = same_ticks (lines (rate_text rate) ++ rest) m d now is read.low sound in
    let room = read.room in
    let order = read.order in
    let may : MayStand d rate = record {
      low = read.low;
      high = read.high;
      room = omega (arith, room);
      order = omega (arith, order, due_first rate);
    } in
    let said : words_said (words l) ≡ says.Stream rate = ap words_said are in
    record {
      none = ap (words_fault d) are ∙ stream_sound d ws (subst (λ (n : ℕ). IsStream n ws) ticks formed) may;
      at = read.at;
      near = inr (subst (λ (s : Statement). 8 ≤ (after m d s).next) (sym said) (omega arith));
      sound = subst (λ (s : Statement). AreSound script_lines read.at (after m d s) rest now) (sym said)
          (subst (λ (fs : List RateFrame). AreSound script_lines read.at (with_frames d (map stream_item fs) last) rest now)
          all read.sound);
    }

-- ---- any line
-- the words of a line that begins with a stream
begins_so : (ws : List (List ℕ)) → word_at 0 ws ≡ codes "stream" → ws ≡ codes "stream" ∷ drop 1 ws
begins_so [] begins = absurd cc
begins_so (w ∷ ws) begins = ap (λ (v : List ℕ). v ∷ ws) begins

not_so : (l : List ℕ) (ws : List (List ℕ)) (b : Bool) (k : Keyword) (later : Option Keyword) →
    written_by l ws (Some k) ≡ l ∷ [] → written_by l ws later ≡ l ∷ [] →
    written_by l ws (if b then Some k else later) ≡ l ∷ []
not_so l ws true k later one more = one
not_so l ws false k later one more = more

past : (l : List ℕ) (ws : List (List ℕ)) (b : Bool) (k : Keyword) (later : Option Keyword) → b ≡ false →
    written_by l ws later ≡ l ∷ [] → written_by l ws (if b then Some k else later) ≡ l ∷ []
past l ws b k later none more = rw none more

other_line : (l : List ℕ) (ws : List (List ℕ)) (w : List ℕ) → bytes_eq w (codes "stream") ≡ false →
    written_by l ws (keyword_of w) ≡ l ∷ []
other_line l ws w other = search (not_so, past) depth 30

unwritten : (l : List ℕ) (skipped : Bool) → is_skipped (words l) ≡ skipped →
    bytes_eq (word_at 0 (words l)) (codes "stream") ≡ false → written l ≡ l ∷ []
unwritten l true is other = rw is refl
unwritten l false is other = rw is (other_line l (drop 1 (words l)) (word_at 0 (words l)) other)

line_read : (m : ℕ) (d now : Draft) (l : List ℕ) (rest : List (List ℕ)) → IsDraft d → IsFormed now.config.ticks l →
    AreSound script_lines m d (written l ++ rest) now → LineRead m d now l rest
line_read m d now l rest is formed sound =
    elim (cases_Bool (bytes_eq (word_at 0 (words l)) (codes "stream"))) [
      | inl same ↦
          let begins = (bytes_eq-Decides (word_at 0 (words l)) (codes "stream")).0 same in
          let ws = drop 1 (words l) in
          let are = begins_so (words l) begins in
          let out : written l ≡ lines (rate_text (rate_in ws)) =
          ap (λ (vs : List (List ℕ)). if is_skipped vs then l ∷ [] else written_by l (drop 1 vs) (keyword_of (word_at 0 vs))) are in
          stream_read m d now l ws rest are is (formed begins)
          (subst (λ (ls : List (List ℕ)). AreSound script_lines m d (ls ++ rest) now) out sound)
      | inr other ↦
          alone_read m d now l rest
          (subst (λ (ls : List (List ℕ)). AreSound script_lines m d (ls ++ rest) now)
          (unwritten l (is_skipped (words l)) refl other) sound)
    ]

all_read : (ls : List (List ℕ)) (n m : ℕ) (d now : Draft) → IsDraft d → MayMove n m d → AreFormed now.config.ticks ls →
    AreSound script_lines m d (all_written ls) now → AreSound script_lines n d ls now
unfolding AreSound all_written
all_read [] n m d now is may formed sound = sound
all_read (l ∷ ls) n m d now is may formed sound =
    let said = words_said (words l) in
    let read = line_read m d now l (all_written ls) is (All-head (IsFormed now.config.ticks) l ls formed) sound in
    let fits = fits_words d (words l) is read.none in
    let on = moves_on n m read.at d said may fits read.near in (
      read.none,
      all_read ls (n + 1) read.at (after n d said) now (IsDraft-after n d said is fits) on.1
          (All-tail (IsFormed now.config.ticks) l ls formed)
          (subst (λ (x : Draft). AreSound script_lines read.at x (all_written ls) now) on.0 read.sound),
    )

-- ---- the text
formed_script : (text : List ℕ) (script : Script) → script_of text ≡ Ok script → AreFormed script.config.ticks (lines text)
formed_script text script said =
    let is = (said_script text script).0 said in
    subst (λ (s : Script). AreFormed s.config.ticks (lines text)) (sym is.is)
    (all_formed (lines text) 1 at_first is.now IsDraft-first is.sound)

script_back : (text other : List ℕ) (script : Script) → lines other ≡ all_written (lines text) →
    AreFormed script.config.ticks (lines text) → script_of other ≡ Ok script → script_of text ≡ Ok script
script_back text other script same formed said =
    let is = (said_script other script).0 said in
    (said_script text script).1 (record {
      now = is.now;
      sound = all_read (lines text) 1 1 at_first is.now IsDraft-first (inl refl)
          (subst (λ (s : Script). AreFormed s.config.ticks (lines text)) is.is formed)
          (subst (λ (ls : List (List ℕ)). AreSound script_lines 1 at_first ls is.now) same is.sound);
      whole = is.whole;
      passes = is.passes;
      is = is.is;
    })

pub exactly : (text other : List ℕ) (script : Script) → lines other ≡ all_written (lines text) →
    (script_of text ≡ Ok script) ↔ (AreFormed script.config.ticks (lines text) × (script_of other ≡ Ok script))
exactly text other script same = (
  λ said. (formed_script text script said, same_script text other script same said),
  λ both. script_back text other script same both.0 both.1,
)
