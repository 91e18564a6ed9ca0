-- The words of a stream: the parts of a word between commas, and that words without a fault say a rate.
use Rattle.std.proofs.Common.{◌≡◌, ◌≢◌, ℕ, ◌+◌, ◌<◌, ◌≤◌, ◌==◌, ◌&&◌, nat_le, nat_lt, not, true, false, List, [], ◌∷◌}
use Rattle.std.proofs.Common.{◌++◌, length, All, refl, subst, ap, sym, ◌∙◌, arith, None, option_map}
use Rattle.std.specs.List.{list_all}
use Rattle.std.specs.Option.{option_or}
use Rattle.std.proofs.lemmas.Bool.{ne_eqb, not-false, leb-true, ltb-false, eqb-true, and_parts}
use Rattle.std.proofs.lemmas.List.{length-map}
use Rattle.std.proofs.lemmas.List.Elements.{All-weaker, All-nil, All-cons}
use Rattle.std.proofs.lemmas.List.Splits.{slice_split_at, slice_split_none, length-slice_split}
use Rattle.law_rates.specs.Limits.{most_sizes, most_mbits}
use Rattle.law_rates.specs.Rates.{IsRate}
use Rattle.law_rates.specs.declared.rate_frames.Rate.{Rate}
use Rattle.law_rates.proofs.RateFrameLaws.{AreSizes}
use Rattle.law_model.specs.Common.{shortest_frame, longest_frame}
use Rattle.text_lines.specs.Cut.{Lacks}
use Rattle.text_lines.specs.declared.text_faults.FieldFault.TheVariants as field
use Rattle.text_lines.specs.Fields.{fields_fault, field_fault, number_fault, within, any, above, where_true}
use Rattle.text_lines.specs.WordsOfLine.{number_of, is_number}
use Rattle.text_lines.proofs.TextLineAndWordLaws.{or_none, where_none, map_none, number_ok}
use Rattle.text_scripts.specs.declared.script_read.script_fault.SizesFault.TheVariants as sizes
use Rattle.text_scripts.specs.declared.script_read.script_fault.LineFault.TheVariants as wrong
use Rattle.text_scripts.specs.declared.script_read.script_keyword.Keyword.TheVariants as word
use Rattle.text_scripts.specs.declared.script_read.script_draft.Draft.{Draft}
use Rattle.text_scripts.specs.script_read.Statements.{parts_of, sizes_of, is_size, sizes_fault, are_digits, long_fault}
use Rattle.text_scripts.specs.script_read.Statements.{each_fault, rate_in}
use Rattle.text_scripts.specs.script_read.Written.{IsStream}
use Rattle.text_scripts.specs.script_read.Drafts.{IsDraft, rate_fault}

-- ---- parts
no_comma : (word : List ℕ) → Lacks 44 word → All (λ c. (c == 44) ≡ false) word
no_comma word lacks = All-weaker (λ c. c ≢ 44) (λ c. (c == 44) ≡ false) (λ c other. ne_eqb c 44 other) word lacks

pub parts_cut : (word part later : List ℕ) → Lacks 44 part → word ≡ part ++ 44 ∷ later →
    parts_of word ≡ part ∷ parts_of later
parts_cut word part later lacks is =
    ap parts_of is ∙ slice_split_at (λ c. c == 44) part 44 later (no_comma part lacks) refl

pub parts_last : (word : List ℕ) → Lacks 44 word → parts_of word ≡ word ∷ []
parts_last word lacks = slice_split_none (λ c. c == 44) word (no_comma word lacks)

-- ---- sizes
are_sizes : (ns : List ℕ) → list_all is_size ns ≡ true → AreSizes ns
are_sizes [] all = All-nil (λ size. (shortest_frame ≤ size) × (size ≤ longest_frame))
are_sizes (n ∷ ns) all =
    let parts = and_parts (is_size n) (list_all is_size ns) all in
    let bounds = and_parts (nat_le shortest_frame n) (nat_le n longest_frame) parts.0 in
    All-cons (λ size. (shortest_frame ≤ size) × (size ≤ longest_frame)) n ns
    (leb-true shortest_frame n bounds.0, leb-true n longest_frame bounds.1) (are_sizes ns parts.1)

record FitRate (word : List ℕ) : Type 0 where
  numbers : list_all is_number (parts_of word) ≡ true
  some : 1 ≤ length (sizes_of word)
  few : length (sizes_of word) ≤ most_sizes
  each : AreSizes (sizes_of word)

sizes_fit : (word : List ℕ) → sizes_fault word ≡ None → FitRate word
sizes_fit word none =
    let form = not (list_all is_number (parts_of word)) in
    let many = nat_lt most_sizes (length (parts_of word)) in
    let range = not (list_all is_size (sizes_of word)) in
    let one = or_none (where_true form sizes.Digits)
    (option_or (where_true many sizes.Count) (where_true range sizes.Range)) none in
    let two = or_none (where_true many sizes.Count) (where_true range sizes.Range) one.1 in
    let few = ltb-false most_sizes (length (parts_of word)) (where_none many sizes.Count two.0) in
    let all = not-false (list_all is_size (sizes_of word)) (where_none range sizes.Range two.1) in
    let size = length-map (parts_of word) number_of in
    let some = length-slice_split (λ c. c == 44) word in
    record {
      numbers = not-false (list_all is_number (parts_of word)) (where_none form sizes.Digits one.0);
      some = omega (arith, size, some);
      few = omega (arith, size, few);
      each = are_sizes (sizes_of word) all;
    }

-- ---- the numbers
is_numeral : (at least most : ℕ) (w : List ℕ) → number_fault at least most w ≡ None → is_number w ≡ true
is_numeral at least most w none =
    let form = not (is_number w) in
    let range = not (nat_le least (number_of w) && nat_le (number_of w) most) in
    not-false (is_number w) (where_none form (field.Number at)
    (or_none (where_true form (field.Number at)) (where_true range (field.Range at least most)) none).0)

record FitLong (word : List ℕ) : Type 0 where
  form : are_digits 20 word ≡ true
  below : number_of word < 18446744073709551616

long_fits : (word : List ℕ) → long_fault word ≡ None → FitLong word
long_fits word none =
    let form = not (are_digits 20 word) in
    let range = nat_lt 18446744073709551615 (number_of word) in
    let most = wrong.Field (field.Range 6 0 18446744073709551615) in
    let is = or_none (where_true form wrong.LongNumber) (where_true range most) none in
    let below = ltb-false 18446744073709551615 (number_of word) (where_none range most is.1) in
    record {
      form = not-false (are_digits 20 word) (where_none form wrong.LongNumber is.0);
      below = omega (arith, below);
    }

-- ---- the rate
pub says_rate : (d : Draft) (ws : List (List ℕ)) → IsDraft d → 6 ≤ d.next → length ws ≡ 5 →
    each_fault d word.Stream ws ≡ None → IsStream d.config.ticks ws
says_rate d (w ∷ m ∷ f ∷ e ∷ n ∷ []) is late size none =
    let ticks = d.config.ticks in
    let all = within 1 most_mbits ∷ any ∷ above ticks ∷ [] in
    let rest = f ∷ e ∷ n ∷ [] in
    let one = or_none (option_map wrong.Sizes (sizes_fault w))
    (option_or (option_map wrong.Field (fields_fault all 3 0 (m ∷ rest))) (long_fault n)) none in
    let two = or_none (option_map wrong.Field (fields_fault all 3 0 (m ∷ rest))) (long_fault n) one.1 in
    let each = map_none wrong.Field (fields_fault all 3 0 (m ∷ rest)) two.0 in
    let first = or_none (field_fault (within 1 most_mbits) 3 0 m)
    (fields_fault (any ∷ above ticks ∷ []) 4 (number_of m) rest) each in
    let second = or_none (field_fault any 4 (number_of m) f)
    (fields_fault (above ticks ∷ []) 5 (number_of f) (e ∷ n ∷ [])) first.1 in
    let third = or_none (field_fault (above ticks) 5 (number_of f) e) None second.1 in
    let mbits = number_ok 3 1 most_mbits m first.0 in
    let end = number_ok 5 (number_of f + 1) ticks e third.0 in
    let fit = sizes_fit w (map_none wrong.Sizes (sizes_fault w) one.0) in
    let long = long_fits n two.1 in
    let most = is.config.ticks late in
    record {
      five = size;
      sizes = fit.numbers;
      mbits = is_numeral 3 1 most_mbits m first.0;
      first = is_numeral 4 0 9999999999 f second.0;
      end = is_numeral 5 (number_of f + 1) ticks e third.0;
      number = long.form;
      rate = record {
        some = fit.some;
        few = fit.few;
        sizes = fit.each;
        moves = mbits.0;
        slow = mbits.1;
        before = omega (arith, end.0);
        end = omega (arith, end.1, most.1);
      };
      ends = omega (arith, end.1);
      below = long.below;
    }
says_rate d ws is late size none = absurd (omega (arith, size))

-- words without a fault say a rate
pub rate_sound : (d : Draft) (ws : List (List ℕ)) (rate : Rate) → IsDraft d → 6 ≤ d.next → rate_fault d ws ≡ None →
    rate ≡ rate_in ws → IsRate rate
rate_sound d ws rate is late none same =
    let count = wrong.Count word.Stream 5 (length ws) in
    let parts = or_none (where_true (not (length ws == 5)) count) (each_fault d word.Stream ws) none in
    let five = eqb-true (length ws) 5 (not-false (length ws == 5) (where_none (not (length ws == 5)) count parts.0)) in
    subst IsRate (sym same) (says_rate d ws is late five parts.1).rate
