-- Words of a line without a fault say what fits the draft before it; and the faults of words.
use Rattle.std.proofs.Common.{◌≡◌, ◌≢◌, ℕ, ◌<◌, true, List, [], ◌∷◌, length, Result, Ok, Err, refl, subst, arith, ◌+◌}
use Rattle.std.proofs.Common.{ap, ◌∙◌, Option, None, Some, replicate, option_map, eq-eqb, ◌⊎◌, zero, suc, ◌-◌, ◌≤◌}
use Rattle.std.proofs.Common.{nat_lt, ◌==◌, ◌&&◌, ◌||◌, not, Bool, false, map, sym, All, inl, inr, drop, if◌then◌else◌}
use Rattle.std.specs.Result.{result_unwrap_or}
use Rattle.std.proofs.lemmas.List.Elements.{All-weaker, All-nil, All-cons}
use Rattle.hex.specs.Hex.{decode_of, is_hex_digit}
use Rattle.hex.specs.declared.error.FromHexError.{FromHexError}
use Rattle.hex.proofs.HexLemmas.{decode_of-ok}
use Rattle.text_lines.specs.WordsOfLine.{words, octets_of, number_of, word_at, is_skipped, number_at}
use Rattle.text_lines.proofs.TextLineAndWordLaws.{words_only, or_none, where_none, map_none, number_ok, digits_ok}
use Rattle.text_lines.proofs.TextLineAndWordLaws.{one_field, two_fields}
use Rattle.std.specs.Option.{option_or}
use Rattle.text_lines.specs.declared.text_faults.FieldFault.{FieldFault}
use Rattle.text_lines.specs.Fields.{Field as FieldOf, fields_fault, number_fault, within, any, above, digits, one_of, where_true}
use Rattle.text_lines.specs.Fields.{name_fault, field_fault}
use Rattle.text_scripts.specs.declared.script_read.script_fault.LineFault.{LineFault}
use Rattle.text_scripts.specs.declared.script_read.script_fault.LineFault.TheVariants.{Field}
use Rattle.text_scripts.specs.script_read.Drafts.{delays_fault, one_fault, says_number, most_of, IsPlaced, IsDraft, IsNext, IsNextLost, Fits}
use Rattle.std.proofs.lemmas.List.{length-replicate}
use Rattle.std.specs.Prelude.{bytes_eq, codes, unwrap_or}
use Rattle.std.proofs.lemmas.Bool.{not-false, leb-false, ltb-false, eqb-true, and_parts, or_cases, cases_lt}
use Rattle.std.proofs.lemmas.Bool.Decides.{nat_tests}
use Rattle.text_lines.specs.declared.text_faults.FieldFault.TheVariants.{Name}
use Rattle.law_model.specs.Common.{IsWithin, IsSize, IsStatuses, vc3_size, vc4_size}
use Rattle.text_scripts.specs.declared.script_read.script_keyword.Keyword.{Keyword}
use Rattle.text_scripts.specs.declared.script_read.script_draft.Draft.{Draft}
use Rattle.law_rates.specs.Rates.{count_of}
use Rattle.text_scripts.specs.script_read.Statements.{takes, each_fault, rate_in}
use Rattle.text_scripts.proofs.StreamWordLaws.{says_rate}
use Rattle.text_scripts.specs.script_read.Statements.{keyword_of, place, awaited, behind_fault, place_fault}
use Rattle.text_scripts.specs.script_read.Statements.{is_longer, longer_fault}
use Rattle.text_scripts.specs.script_read.Statements.{statuses_of, size_of, fields, windows_of, last_end, last_lost}
use Rattle.text_scripts.specs.script_read.Statements.{is_full, is_early, full_fault, early_fault, rest_fault}
use Rattle.text_scripts.specs.script_read.Statements.{known_fault, words_fault, said, known_said, words_said}
use Rattle.text_lines.specs.declared.text_faults.Names.TheVariants as names
use Rattle.text_scripts.specs.declared.script_read.script_fault.LineFault.TheVariants as wrong
use Rattle.text_scripts.specs.declared.script_read.script_keyword.Keyword.TheVariants as word
use Rattle.law_model.specs.Common.{most_count, most_items, most_lines, most_ticks}
use Rattle.law_model.specs.Common.{largest_ring, longest_delay, longest_holdoff, longest_lag, longest_offer}
use Rattle.law_model.specs.Common.{longest_restore, longest_slip, most_packets, most_windows}

-- ---- Hexadecimal digits have no space among them.
no_space : (c : ℕ) → is_hex_digit c ≡ true → c ≢ 32
no_space c digit is = cc (subst (λ (n : ℕ). is_hex_digit n ≡ true) is digit)

-- so that digits which say an octet are one word
only : (text : List ℕ) (r : Result (List ℕ) FromHexError) → decode_of text ≡ r → 0 < length (result_unwrap_or r []) →
    words text ≡ text ∷ []
only text (Ok bytes) said some =
    let (even, are_digits, long, fit) = decode_of-ok text bytes said in
    words_only text (All-weaker (λ c. is_hex_digit c ≡ true) (λ c. c ≢ 32) no_space text are_digits)
    (omega (arith, long, some))
only text (Err e) said some = absurd (omega (arith, some))

pub digits_only : (text octets : List ℕ) → octets ≡ octets_of text → 0 < length octets → words text ≡ text ∷ []
digits_only text octets is some =
    only text (decode_of text) refl (subst (λ (said : List ℕ). 0 < length said) is some)

-- ---- The faults of delays, word by word.
-- the first fault of delays, of which the first is the word at a place
abbrev pub delay_faults : ℕ → List (List ℕ) → Option FieldFault
delay_faults at [] = None
delay_faults at (w ∷ ws) = option_or (number_fault at 0 longest_delay w) (delay_faults (at + 1) ws)

abbrev pub line_faults : ℕ → List (List ℕ) → Option LineFault
line_faults at ws = option_map Field (delay_faults at ws)

pub delays_as_fields : (at before : ℕ) (ws : List (List ℕ)) →
    fields_fault (replicate (length ws) (within 0 longest_delay)) at before ws ≡ delay_faults at ws
delays_as_fields at before [] = refl
delays_as_fields at before (w ∷ ws) =
    ap (λ (f : Option FieldFault). option_or (number_fault at 0 longest_delay w) f) (delays_as_fields (at + 1) (number_of w) ws)

pub delays_said : (n : ℕ) (ws : List (List ℕ)) → length ws ≡ n → delays_fault n ws ≡ line_faults 2 ws
delays_said n ws count =
    subst (λ (k : ℕ). delays_fault k ws ≡ line_faults 2 ws) count
    (rw (eq-eqb (length ws) (length ws) refl)
    (ap (λ (f : Option FieldFault). option_map Field f) (delays_as_fields 2 0 ws)))

pub delay_fails : (at place : ℕ) (ws more : List (List ℕ)) (w : List ℕ) (fault : FieldFault) → ws ≡ w ∷ more →
    at ≡ place → number_fault at 0 longest_delay w ≡ Some fault
    → line_faults place ws ≡ Some (Field fault)
delay_fails at place ws more w fault first same fails =
    ap (λ (n : ℕ). line_faults n ws) (let e : place ≡ at = omega (arith, same) in e)
    ∙ ap (λ (x : List (List ℕ)). line_faults at x) first
    ∙ ap (λ (f : Option FieldFault). option_map Field (option_or f (delay_faults (at + 1) more))) fails

-- ---- The faults of one number.
same_fault : (f : Option FieldFault) →
    option_or (option_map wrong.Field (option_or f None)) None ≡ option_map wrong.Field f
same_fault None = refl
same_fault (Some f) = refl

one_word_fault : (k : Keyword) (least most : ℕ) (ws : List (List ℕ)) →
    option_or (where_true (not (length ws == 1)) (wrong.Count k 1 (length ws)))
    (option_or (option_map wrong.Field (fields_fault (within least most ∷ []) 2 0 ws)) None)
    ≡ one_fault k least most ws
one_word_fault k least most [] = refl
one_word_fault k least most (w ∷ []) = same_fault (number_fault 2 least most w)
one_word_fault k least most (w ∷ w₂ ∷ ws) =
    (let e : (length (w ∷ w₂ ∷ ws) == 1) ≡ false = grind (arith, nat_tests) in rw e refl)

pub number_rest : (d : Draft) (k : Keyword) (ws : List (List ℕ)) → says_number k ≡ true →
    rest_fault d k ws ≡ one_fault k 1 (most_of k) ws
number_rest d word.Lines ws is = one_word_fault word.Lines 1 most_lines ws
number_rest d word.Ring ws is = one_word_fault word.Ring 1 largest_ring ws
number_rest d word.Lag ws is = one_word_fault word.Lag 1 longest_lag ws
number_rest d word.Ticks ws is = one_word_fault word.Ticks 1 most_ticks ws
number_rest d word.Client ws is = one_word_fault word.Client 1 most_count ws
number_rest d word.Operator ws is = one_word_fault word.Operator 1 most_count ws
number_rest d word.Tick ws is = one_word_fault word.Tick 1 most_count ws
number_rest d word.Back ws is = one_word_fault word.Back 1 most_count ws
number_rest d word.Take ws is = one_word_fault word.Take 1 most_count ws
number_rest d word.Round ws is = one_word_fault word.Round 1 most_count ws
number_rest d k ws is = absurd cc

-- ---- A line without a fault says what may come next.
-- ---- words
-- one of two names says one of two numbers
one_of_two : (p q : Bool) (x y : ℕ) (fault : FieldFault) → where_true (not (p || (q || false))) fault ≡ None →
    (let n : ℕ = unwrap_or (if p then Some x else if q then Some y else None) 0 in (n ≡ x) ⊎ (n ≡ y))
one_of_two true q x y fault none = inl refl
one_of_two false true x y fault none = inr refl
one_of_two false false x y fault none = absurd cc

size_ok : (w : List ℕ) → name_fault 2 names.Containers w ≡ None → IsSize (unwrap_or (size_of w) 0)
size_ok w none =
    one_of_two (bytes_eq w (codes "vc3")) (bytes_eq w (codes "vc4")) vc3_size vc4_size (Name 2 names.Containers) none

statuses_ok : (w : List ℕ) → name_fault 2 names.Statuses w ≡ None → IsStatuses (unwrap_or (statuses_of w) 0)
statuses_ok w none =
    one_of_two (bytes_eq w (codes "16")) (bytes_eq w (codes "32")) 16 32 (Name 2 names.Statuses) none

each_within : (n at before : ℕ) (ws : List (List ℕ)) → length ws ≡ n →
    fields_fault (replicate n (within 0 longest_delay)) at before ws ≡ None
    → (length (map number_of ws) ≡ n) × All (λ delay. delay ≤ longest_delay) (map number_of ws)
each_within n at before [] size none = (size, All-nil (λ delay. delay ≤ longest_delay))
each_within zero at before (w ∷ ws) size none = absurd (omega (arith, size))
each_within (suc n) at before (w ∷ ws) size none =
    let is = or_none (number_fault at 0 longest_delay w) (fields_fault (replicate n (within 0 longest_delay)) (at + 1) (number_of w) ws)
    none in
    let rest = each_within n (at + 1) (number_of w) ws (omega (arith, size)) is.1 in (
      omega (arith, rest.0),
      All-cons (λ delay. delay ≤ longest_delay) (number_of w) (map number_of ws) (number_ok at 0 longest_delay w is.0).1 rest.1,
    )

-- ---- the place of a line
early_place : (next at : ℕ) → (at == next || (next == 0 && at == 1)) ≡ true → (next ≡ at) ⊎ ((next ≡ 0) × (at ≡ 1))
early_place next at e =
    elim (or_cases (at == next) (next == 0 && at == 1) e) [
      | inl same ↦ inl (sym (eqb-true at next same))
      | inr passed ↦ let is = and_parts (next == 0) (at == 1) passed in inr (eqb-true next 0 is.0, eqb-true at 1 is.1)
    ]

within_six : (next at : ℕ) → (next ≡ at) ⊎ ((next ≡ 0) × (at ≡ 1)) → next < 6 → at < 6
within_six next at (inl same) low = omega (arith, same, low)
within_six next at (inr passed) low = omega (arith, passed.1)

pub placed : (d : Draft) (k : Keyword) → place_fault d k ≡ None → IsPlaced d.next (place k)
placed d k none =
    let next = d.next in
    let at = place k in
    let is = or_none (where_true (nat_lt next 6 && not (at == next || (next == 0 && at == 1)))
    (wrong.Missing (awaited next))) (where_true (nat_lt at next) (behind_fault d k)) none in
    let missing = where_none (nat_lt next 6 && not (at == next || (next == 0 && at == 1)))
    (wrong.Missing (awaited next)) is.0 in
    let order = ltb-false at next (where_none (nat_lt at next) (behind_fault d k) is.1) in
    elim (cases_lt next 6) [
      | inl low ↦
          let e : nat_lt next 6 ≡ true = grind (arith, nat_tests, low) in
          let found : not (at == next || (next == 0 && at == 1)) ≡ false =
          ap (λ (b : Bool). b && not (at == next || (next == 0 && at == 1))) (sym e) ∙ missing in
          let there = early_place next at (not-false (at == next || (next == 0 && at == 1)) found) in
          let small = within_six next at there low in
          (λ early. there, λ late. absurd (omega (arith, small, late)))
      | inr high ↦ (λ early. absurd (omega (arith, high, order, early)), λ late. (high, order))
    ]

at_place : (next at : ℕ) → at ≤ 5 → at ≢ 1 → IsPlaced next at → next ≡ at
at_place next at low other is =
    elim (is.0 low) [
      | inl same ↦ same
      | inr passed ↦ absurd (other passed.1)
    ]

at_lines : (next : ℕ) → IsPlaced next 1 → next ≤ 1
at_lines next is =
    elim (is.0 (omega arith)) [
      | inl same ↦ omega (arith, same)
      | inr passed ↦ omega (arith, passed.0)
    ]

at_options : (next : ℕ) → IsPlaced next 6 → next ≡ 6
at_options next is = let late = is.1 (omega arith) in omega (arith, late.0, late.1)

-- ---- what a line says
-- none of this first word stands yet
not_yet : (n : ℕ) → nat_lt 0 n ≡ false → n ≡ 0
not_yet n none = let least = ltb-false 0 n none in omega (arith, least)

pub record HasNoFault (d : Draft) (k : Keyword) (ws : List (List ℕ)) : Type 0 where
  pub count : length ws ≡ takes d k
  pub each : each_fault d k ws ≡ None
  pub room : is_full d k ws ≡ false
  pub order : is_early d k ws ≡ false

pub no_fault : (d : Draft) (k : Keyword) (ws : List (List ℕ)) → rest_fault d k ws ≡ None → HasNoFault d k ws
no_fault d k ws none =
    let count = wrong.Count k (takes d k) (length ws) in
    let each = each_fault d k ws in
    let room = where_true (is_full d k ws) (full_fault d k ws) in
    let order = where_true (is_early d k ws) (early_fault d k ws) in
    let one = or_none (where_true (not (length ws == takes d k)) count)
    (option_or each (option_or room order)) none in
    let two = or_none each (option_or room order) one.1 in
    let three = or_none room order two.1 in
    record {
      count = eqb-true (length ws) (takes d k)
          (not-false (length ws == takes d k) (where_none (not (length ws == takes d k)) count one.0));
      each = two.0;
      room = where_none (is_full d k ws) (full_fault d k ws) three.0;
      order = where_none (is_early d k ws) (early_fault d k ws) three.1;
    }

-- words that are as these fields have it
plain : (fs : List FieldOf) (ws : List (List ℕ)) → option_map wrong.Field (fields_fault fs 2 0 ws) ≡ None →
    fields_fault fs 2 0 ws ≡ None
plain fs ws none = map_none wrong.Field (fields_fault fs 2 0 ws) none

one_number : (least most : ℕ) (ws : List (List ℕ)) → length ws ≡ 1 →
    option_map wrong.Field (fields_fault (within least most ∷ []) 2 0 ws) ≡ None → IsWithin least most (number_at 0 ws)
one_number least most ws size none =
    number_ok 2 least most (word_at 0 ws) (one_field (within least most) 2 ws size (plain (within least most ∷ []) ws none))

some_lines : (d : Draft) → IsDraft d → 2 ≤ d.next → 1 ≤ d.config.lines
some_lines d is late = (is.config.lines late).0

-- the words of a failure before its slip
record ThreeFields (f g h : FieldOf) (at : ℕ) (ws : List (List ℕ)) : Type 0 where
  first : field_fault f at 0 (word_at 0 ws) ≡ None
  third : field_fault h (at + 1 + 1) (number_at 1 ws) (word_at 2 ws) ≡ None

three_fields : (f g h : FieldOf) (at : ℕ) (ws : List (List ℕ)) → 3 ≤ length ws →
    fields_fault (f ∷ g ∷ h ∷ []) at 0 ws ≡ None → ThreeFields f g h at ws
three_fields f g h at (w ∷ v ∷ u ∷ ws) size none =
    let one = or_none (field_fault f at 0 w) (fields_fault (g ∷ h ∷ []) (at + 1) (number_of w) (v ∷ u ∷ ws)) none in
    let two = or_none (field_fault g (at + 1) (number_of w) v)
    (fields_fault (h ∷ []) (at + 1 + 1) (number_of v) (u ∷ ws)) one.1 in
    let three = or_none (field_fault h (at + 1 + 1) (number_of v) u)
    (fields_fault [] (at + 1 + 1 + 1) (number_of u) ws) two.1 in
    record { first = one.0; third = three.0 }
three_fields f g h at ws size none = absurd (omega (arith, size))

slip_sound : (w : List ℕ) → longer_fault w ≡ None → number_fault 5 0 longest_slip w ≡ None
slip_sound w none =
    let is = or_none (where_true (is_longer w) wrong.LongerPath)
    (option_map wrong.Field (number_fault 5 0 longest_slip w)) none in
    map_none wrong.Field (number_fault 5 0 longest_slip w) is.1

next_window : (d : Draft) (ws : List (List ℕ)) → IsDraft d → 6 ≤ d.next → HasNoFault d word.Fail ws
    → IsNext d (number_at 0 ws) (record { first = number_at 1 ws; end = number_at 2 ws; slip = number_at 3 ws })
next_window d ws is late fine =
    let each = or_none (option_map wrong.Field (fields_fault (fields d word.Fail) 2 0 ws))
    (longer_fault (word_at 3 ws)) fine.each in
    let three = three_fields (within 0 (d.config.lines - 1)) any (above d.config.ticks) 2 ws
    (omega (arith, fine.count)) (plain (fields d word.Fail) ws each.0) in
    let some = some_lines d is (omega (arith, late)) in
    let line = number_ok 2 0 (d.config.lines - 1) (word_at 0 ws) three.first in
    let end = number_ok 4 (number_at 1 ws + 1) d.config.ticks (word_at 2 ws) three.third in
    record {
      line = omega (arith, some, line.1);
      some = omega (arith, end.0);
      ends = end.1;
      slips = (number_ok 5 0 longest_slip (word_at 3 ws) (slip_sound (word_at 3 ws) each.1)).1;
      order = ltb-false (number_at 1 ws) (last_end (windows_of d (number_at 0 ws))) fine.order;
      room = leb-false most_windows (length (windows_of d (number_at 0 ws))) fine.room;
    }

next_lost : (d : Draft) (ws : List (List ℕ)) → HasNoFault d word.Lost ws →
    IsNextLost d (number_at 0 ws) (number_at 1 ws)
next_lost d ws fine =
    let two = two_fields any (above most_packets) 2 0 ws fine.count (plain (fields d word.Lost) ws fine.each) in
    let end = number_ok 3 (number_at 0 ws + 1) most_packets (word_at 1 ws) two.1 in
    record {
      some = omega (arith, end.0);
      ends = end.1;
      order = ltb-false (number_at 0 ws) (last_lost d.config.lost) fine.order;
      room = leb-false most_windows (length d.config.lost) fine.room;
    }

record IsCommand (d : Draft) (ws : List (List ℕ)) : Type 0 where
  pub due : number_at 0 ws < d.config.ticks
  pub line : number_at 1 ws ≤ 255

some_ticks : (d : Draft) → IsDraft d → 6 ≤ d.next → 1 ≤ d.config.ticks
some_ticks d is late = (is.config.ticks late).0

command_ok : (d : Draft) (ws : List (List ℕ)) → IsDraft d → 6 ≤ d.next → length ws ≡ 2
    → fields_fault (within 0 (d.config.ticks - 1) ∷ within 0 255 ∷ []) 2 0 ws ≡ None → IsCommand d ws
command_ok d ws is late size none =
    let two = two_fields (within 0 (d.config.ticks - 1)) (within 0 255) 2 0 ws size none in
    let some = some_ticks d is late in
    let due = number_ok 2 0 (d.config.ticks - 1) (word_at 0 ws) two.0 in
    record { due = omega (arith, some, due.1); line = (number_ok 3 0 255 (word_at 1 ws) two.1).1 }

room_left : (d : Draft) → nat_lt most_items (length d.items + 1) ≡ false → length d.items < most_items
room_left d room = let few = ltb-false most_items (length d.items + 1) room in omega (arith, few)

fits_said : (d : Draft) (k : Keyword) (ws : List (List ℕ)) → IsDraft d → IsPlaced d.next (place k) → HasNoFault d k ws →
    Fits d (said k ws)
fits_said d word.Container ws is at fine = (
  at_place d.next 0 (omega arith) (λ e. omega (arith, e)) at,
  size_ok (word_at 0 ws) (one_field (one_of names.Containers) 2 ws fine.count (plain (fields d word.Container) ws fine.each)),
)
fits_said d word.Lines ws is at fine = (at_lines d.next at, one_number 1 most_lines ws fine.count fine.each)
fits_said d word.Delays ws is at fine =
    let size : length ws ≡ d.config.lines = fine.count ∙ length-replicate d.config.lines (within 0 longest_delay) in
    let are = each_within d.config.lines 2 0 ws size (plain (fields d word.Delays) ws fine.each) in
    (at_place d.next 2 (omega arith) (λ e. omega (arith, e)) at, are.0, are.1)
fits_said d word.Ring ws is at fine =
    (at_place d.next 3 (omega arith) (λ e. omega (arith, e)) at, one_number 1 largest_ring ws fine.count fine.each)
fits_said d word.Lag ws is at fine =
    (at_place d.next 4 (omega arith) (λ e. omega (arith, e)) at, one_number 1 longest_lag ws fine.count fine.each)
fits_said d word.Ticks ws is at fine =
    (at_place d.next 5 (omega arith) (λ e. omega (arith, e)) at, one_number 1 most_ticks ws fine.count fine.each)
fits_said d word.Sink ws is at fine = (at_options d.next at, not_yet d.standing.sink fine.room)
fits_said d word.Holdoff ws is at fine = (
  at_options d.next at,
  (one_number 0 longest_holdoff ws fine.count fine.each).1,
  not_yet d.standing.holdoff fine.room,
)
fits_said d word.Restore ws is at fine = (
  at_options d.next at,
  (one_number 0 longest_restore ws fine.count fine.each).1,
  not_yet d.standing.restore fine.room,
)
fits_said d word.Statuses ws is at fine = (
  at_options d.next at,
  statuses_ok (word_at 0 ws) (one_field (one_of names.Statuses) 2 ws fine.count (plain (fields d word.Statuses) ws fine.each)),
  not_yet d.standing.statuses fine.room,
)
fits_said d word.Fail ws is at fine = let late = at.1 (omega arith) in
    (late.0, late.1, next_window d ws is late.0 fine)
fits_said d word.Lost ws is at fine = let late = at.1 (omega arith) in (late.0, late.1, next_lost d ws fine)
fits_said d word.Frame ws is at fine =
    let late = at.1 (omega arith) in
    let two = two_fields (within 0 (d.config.ticks - 1)) (digits 1 longest_offer) 2 0 ws fine.count (plain (fields d word.Frame) ws fine.each) in
    let some = some_ticks d is late.0 in
    let due = number_ok 2 0 (d.config.ticks - 1) (word_at 0 ws) two.0 in
    let frame = digits_ok 3 1 longest_offer (word_at 1 ws) two.1 in (
      late.0,
      late.1,
      record {
        fits = (
          (let e : number_at 0 ws < d.config.ticks = omega (arith, some, due.1) in e),
          (frame.size, frame.each),
        );
        order = ltb-false (number_at 0 ws) d.frame_due fine.order;
        room = room_left d fine.room;
      },
    )
fits_said d word.Stream ws is at fine =
    let late = at.1 (omega arith) in
    let says = says_rate d ws is late.0 fine.count fine.each in (
      late.0,
      late.1,
      record {
        sound = says.rate;
        ends = says.ends;
        order = ltb-false (number_at 2 ws) d.frame_due fine.order;
        room = ltb-false most_items (length d.items + count_of (rate_in ws)) fine.room;
      },
    )
fits_said d word.Add ws is at fine =
    let late = at.1 (omega arith) in
    let command = command_ok d ws is late.0 fine.count (plain (fields d word.Add) ws fine.each) in (
      late.0,
      late.1,
      record {
        fits = (command.due, command.line);
        order = ltb-false (number_at 0 ws) d.command_due fine.order;
        room = room_left d fine.room;
      },
    )
fits_said d word.Remove ws is at fine =
    let late = at.1 (omega arith) in
    let command = command_ok d ws is late.0 fine.count (plain (fields d word.Remove) ws fine.each) in (
      late.0,
      late.1,
      record {
        fits = (command.due, command.line);
        order = ltb-false (number_at 0 ws) d.command_due fine.order;
        room = room_left d fine.room;
      },
    )
fits_said d word.Carry ws is at fine =
    let late = at.1 (omega arith) in
    let two = two_fields (within 0 (d.config.lines - 1)) (within 1 most_count) 2 0 ws fine.count (plain (fields d word.Carry) ws fine.each) in
    let some = some_lines d is (let low = late.0 in omega (arith, low)) in
    let line = number_ok 2 0 (d.config.lines - 1) (word_at 0 ws) two.0 in (
      late.0,
      (
        (let e : number_at 0 ws < d.config.lines = omega (arith, some, line.1) in e),
        number_ok 3 1 most_count (word_at 1 ws) two.1,
      ),
    )
fits_said d word.Drain ws is at fine = let late = at.1 (omega arith) in (late.0, tt)
fits_said d k ws is at fine = let late = at.1 (omega arith) in (late.0, one_number 1 most_count ws fine.count fine.each)

known_fits : (d : Draft) (ws : List (List ℕ)) (k : Option Keyword) → IsDraft d → known_fault d ws k ≡ None →
    Fits d (known_said ws k)
known_fits d ws None is none = absurd cc
known_fits d ws (Some k) is none =
    let parts = or_none (place_fault d k) (rest_fault d k ws) none in
    fits_said d k ws is (placed d k parts.0) (no_fault d k ws parts.1)

skipped_or : (d : Draft) (ws : List (List ℕ)) (skipped : Bool) → is_skipped ws ≡ skipped → IsDraft d →
    words_fault d ws ≡ None → Fits d (words_said ws)
skipped_or d ws true is draft none = rw is tt
skipped_or d ws false is draft none =
    rw is (known_fits d (drop 1 ws) (keyword_of (word_at 0 ws)) draft (rw is at none))

pub fits_words : (d : Draft) (ws : List (List ℕ)) → IsDraft d → words_fault d ws ≡ None → Fits d (words_said ws)
fits_words d ws is none = skipped_or d ws (is_skipped ws) refl is none
