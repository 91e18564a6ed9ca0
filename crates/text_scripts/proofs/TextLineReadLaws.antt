-- A line that was put together of words is cut into them again, and its words have no fault where its numbers are in
-- their ranges.
use Rattle.std.proofs.Common.{◌≡◌, ◌≢◌, ℕ, ◌+◌, ◌-◌, ◌<◌, ◌≤◌, ◌==◌, nat_le, not, true, false}
use Rattle.std.proofs.Common.{List, [], ◌∷◌, ◌++◌, length, map, replicate, ap, ap₂, sym, ◌∙◌, refl, arith, All}
use Rattle.std.proofs.Common.{Option, None, option_map, append_assoc, append-nil, length-append, slice_index}
use Rattle.std.specs.Prelude.{codes, decimal}
use Rattle.std.specs.List.{list_all, flat_map, AllByRecursion}
use Rattle.std.specs.Option.{option_or}
use Rattle.std.specs.Str.Lines.{lines, strip_carriage_return}
use Rattle.std.proofs.lemmas.Bool.{leb-true, ne_eqb, eq-eqb, and_parts}
use Rattle.std.proofs.lemmas.Bool.Decides.{nat_tests}
use Rattle.std.proofs.lemmas.Fmt.{digits_decimal, decimal_nonempty}
use Rattle.std.proofs.lemmas.List.Elements.{All-append, All-cons, All-nil, All-weaker}
use Rattle.hex.specs.Hex.{encode_lower, is_hex_digit}
use Rattle.hex.proofs.HexLemmas.{decode_of-ok}
use Rattle.text_lines.specs.Cut.{Lacks}
use Rattle.text_lines.specs.Fields.{Field, within, where_true, number_fault, field_fault, fields_fault}
use Rattle.text_lines.specs.WordsOfLine.{words, is_digit, number_of}
use Rattle.text_lines.specs.declared.text_faults.FieldFault.{FieldFault}
use Rattle.text_lines.proofs.TextLineAndWordLaws.{lines_cut, words_front, words_only}
use Rattle.text_scripts.specs.declared.script_read.script_fault.LineFault.{LineFault}
use Rattle.text_scripts.specs.declared.script_read.script_fault.LineFault.TheVariants as wrong
use Rattle.text_scripts.specs.declared.script_read.script_keyword.Keyword.{Keyword}
use Rattle.text_scripts.specs.declared.script_read.script_draft.Draft.{Draft}
use Rattle.text_scripts.specs.script_read.Statements.{takes, each_fault, is_full, is_early, full_fault, early_fault, rest_fault}
use Rattle.text_scripts.specs.script_text.ScriptText.{spaced, line}
use Rattle.text_scripts.proofs.WrittenStreamLaws.{numerals, decimal_number, decimal_value, or_fine, where_fine, number_fine}
use Rattle.text_scripts.proofs.WrittenStreamLaws.{decoded, length-hex}

-- ---- words
-- there is an octet, and each stands behind the space
pub record IsWord (w : List ℕ) : Type 0 where
  pub some : 0 < length w
  pub plain : All (λ c. 33 ≤ c) w

abbrev pub AreWords : List (List ℕ) → Type 0
AreWords [] = Unit {0}
AreWords (w ∷ ws) = IsWord w × AreWords ws

plain_by : (w : List ℕ) → list_all (λ c. nat_le 33 c) w ≡ true → All (λ c. 33 ≤ c) w
plain_by [] all = All-nil (λ c. 33 ≤ c)
plain_by (c ∷ w) all =
    let both = and_parts (nat_le 33 c) (list_all (λ c. nat_le 33 c) w) all in
    All-cons (λ c. 33 ≤ c) c w (leb-true 33 c both.0) (plain_by w both.1)

pub is_word : (w : List ℕ) → 0 < length w → list_all (λ c. nat_le 33 c) w ≡ true → IsWord w
is_word w some all = record { some = some; plain = plain_by w all }

digits_plain : (w : List ℕ) → list_all is_digit w ≡ true → All (λ c. 33 ≤ c) w
digits_plain [] all = All-nil (λ c. 33 ≤ c)
digits_plain (c ∷ w) all =
    let both = and_parts (is_digit c) (list_all is_digit w) all in
    let least = leb-true 48 c (and_parts (nat_le 48 c) (nat_le c 57) both.0).0 in
    All-cons (λ c. 33 ≤ c) c w (omega (arith, least)) (digits_plain w both.1)

pub decimal_word : (n : ℕ) → n < 10000000000 → IsWord (decimal n)
decimal_word n small = record {
  some = decimal_nonempty n (omega (arith, small));
  plain = digits_plain (decimal n) (digits_decimal numerals n (omega (arith, small)));
}

hex_high : (c : ℕ) → is_hex_digit c ≡ true → 33 ≤ c
hex_high c digit = grind (arith, digit, nat_tests)

pub hex_word : (octets : List ℕ) → All (λ o. o < 256) octets → 1 ≤ length octets → IsWord (encode_lower octets)
hex_word octets bytes some = record {
  some = (let long = length-hex octets bytes in omega (arith, long, some));
  plain = All-weaker (λ d. is_hex_digit d ≡ true) (λ c. 33 ≤ c) hex_high (encode_lower octets)
      (decode_of-ok (encode_lower octets) octets (decoded octets bytes)).1;
}

lacks_low : (c : ℕ) (w : List ℕ) → c < 33 → All (λ d. 33 ≤ d) w → Lacks c w
lacks_low c w low plain =
    All-weaker (λ d. 33 ≤ d) (λ d. d ≢ c) (λ d high e. omega (arith, e, high, low)) w plain

-- ---- the line of words
tail_high : (ws : List (List ℕ)) → AreWords ws → All (λ c. 32 ≤ c) (flat_map spaced ws)
tail_high [] are = All-nil (λ c. 32 ≤ c)
tail_high (w ∷ ws) are =
    All-append (λ c. 32 ≤ c) (spaced w) (flat_map spaced ws)
    (All-cons (λ c. 32 ≤ c) 32 w (omega arith)
    (All-weaker (λ c. 33 ≤ c) (λ c. 32 ≤ c) (λ c high. omega (arith, high)) w are.0.plain))
    (tail_high ws are.1)

tail_words : (w : List ℕ) (ws : List (List ℕ)) → IsWord w → AreWords ws → words (w ++ flat_map spaced ws) ≡ w ∷ ws
tail_words w [] is are = ap words (append-nil w) ∙ words_only w (lacks_low 32 w (omega arith) is.plain) is.some
tail_words w (v ∷ ws) is are =
    words_front w (v ++ flat_map spaced ws) (lacks_low 32 w (omega arith) is.plain) is.some
    ∙ ap (λ (l : List (List ℕ)). w ∷ l) (tail_words v ws are.0 are.1)

module _ (keyword : List ℕ) (ws : List (List ℕ)) (is : IsWord keyword) (are : AreWords ws) where
  abbrev front : List ℕ
  front = keyword ++ flat_map spaced ws

  line_high : All (λ c. 32 ≤ c) front
  line_high =
      All-append (λ c. 32 ≤ c) keyword (flat_map spaced ws)
      (All-weaker (λ c. 33 ≤ c) (λ c. 32 ≤ c) (λ c high. omega (arith, high)) keyword is.plain) (tail_high ws are)

  line_lacks : (c : ℕ) → c < 32 → Lacks c front
  line_lacks c low =
      All-weaker (λ d. 32 ≤ d) (λ d. d ≢ c) (λ d high e. omega (arith, e, high, low)) front line_high

  whole_line : front ≡ strip_carriage_return front
  whole_line =
      let size = length-append keyword (flat_map spaced ws) in
      let some = is.some in
      let last : slice_index front (length front - 1) ≢ 13 =
      line_lacks 13 (omega arith) (length front - 1) 0 (omega (arith, size, some)) in
      sym (rw (ne_eqb (slice_index front (length front - 1)) 13 last) refl)

  pub line_cut : (more : List ℕ) → lines (line keyword ws ++ more) ≡ front ∷ lines more
  line_cut more =
      lines_cut (line keyword ws ++ more) front more front (line_lacks 10 (omega arith))
      (append_assoc front (codes "\n") more) whole_line

  pub line_words : words front ≡ keyword ∷ ws
  line_words = tail_words keyword ws is are

-- ---- words without a fault
pub number_none : (at least most n : ℕ) → n < 10000000000 → least ≤ n → n ≤ most → number_fault at least most (decimal n) ≡ None
number_none at least most n small low high =
    let value = decimal_value n small in
    number_fine at least most (decimal n) (decimal_number n small) (omega (arith, value, low)) (omega (arith, value, high))

pub fields_more : (f : Field) (fs : List Field) (at before : ℕ) (w : List ℕ) (ws : List (List ℕ)) →
    field_fault f at before w ≡ None → fields_fault fs (at + 1) (number_of w) ws ≡ None →
    fields_fault (f ∷ fs) at before (w ∷ ws) ≡ None
fields_more f fs at before w ws one more = or_fine (field_fault f at before w) (fields_fault fs (at + 1) (number_of w) ws) one more

pub rest_fine : (d : Draft) (k : Keyword) (ws : List (List ℕ)) → length ws ≡ takes d k → each_fault d k ws ≡ None →
    is_full d k ws ≡ false → is_early d k ws ≡ false → rest_fault d k ws ≡ None
rest_fine d k ws size each full early =
    or_fine (where_true (not (length ws == takes d k)) (wrong.Count k (takes d k) (length ws)))
    (option_or (each_fault d k ws)
    (option_or (where_true (is_full d k ws) (full_fault d k ws)) (where_true (is_early d k ws) (early_fault d k ws))))
    (where_fine (not (length ws == takes d k)) (wrong.Count k (takes d k) (length ws))
    (ap not (eq-eqb (length ws) (takes d k) size)))
    (or_fine (each_fault d k ws)
    (option_or (where_true (is_full d k ws) (full_fault d k ws)) (where_true (is_early d k ws) (early_fault d k ws))) each
    (or_fine (where_true (is_full d k ws) (full_fault d k ws)) (where_true (is_early d k ws) (early_fault d k ws))
    (where_fine (is_full d k ws) (full_fault d k ws) full) (where_fine (is_early d k ws) (early_fault d k ws) early)))

-- the words of a line whose only word is a number
abbrev pub one_each : ℕ → ℕ → ℕ → Option LineFault
one_each least most n = option_map wrong.Field (fields_fault (within least most ∷ []) 2 0 (decimal n ∷ []))

pub one_fine : (least most n : ℕ) → n < 10000000000 → least ≤ n → n ≤ most → one_each least most n ≡ None
one_fine least most n small low high =
    ap (λ (f : Option FieldFault). option_map wrong.Field f)
    (fields_more (within least most) [] 2 0 (decimal n) [] (number_none 2 least most n small low high) refl)

-- and of one with a number for each of so many words
pub all_fine : (most at before : ℕ) (ns : List ℕ) → most < 10000000000 → AllByRecursion (λ n. n ≤ most) ns →
    fields_fault (replicate (length ns) (within 0 most)) at before (map decimal ns) ≡ None
all_fine most at before [] low are = refl
all_fine most at before (n ∷ ns) low are =
    let high = are.0 in
    fields_more (within 0 most) (replicate (length ns) (within 0 most)) at before (decimal n) (map decimal ns)
    (number_none at 0 most n (omega (arith, low, high)) (omega arith) high)
    (all_fine most (at + 1) (number_of (decimal n)) ns low are.1)

pub all_words : (most : ℕ) (ns : List ℕ) → most < 10000000000 → AllByRecursion (λ n. n ≤ most) ns → AreWords (map decimal ns)
all_words most [] low are = tt
all_words most (n ∷ ns) low are = (let high = are.0 in decimal_word n (omega (arith, low, high)), all_words most ns low are.1)

pub all_values : (most : ℕ) (ns : List ℕ) → most < 10000000000 → AllByRecursion (λ n. n ≤ most) ns →
    map number_of (map decimal ns) ≡ ns
all_values most [] low are = refl
all_values most (n ∷ ns) low are =
    let high = are.0 in
    ap₂ (λ (x : ℕ) (l : List ℕ). x ∷ l) (decimal_value n (omega (arith, low, high))) (all_values most ns low are.1)
