-- How a text is cut into lines and a line into words, and what words without a fault say in their fields.
use Rattle.std.proofs.Common.{◌≡◌, ◌≢◌, ℕ, ◌-◌, ◌<◌, ◌==◌, List, [], ◌∷◌, ◌++◌, length, arith, refl, ap, sym, ◌∙◌}
use Rattle.std.proofs.Common.{slice_index_or, take, drop, All, false, ◌+◌, ◌≤◌, inl, inr, zero, suc, nat_le, ◌&&◌, not}
use Rattle.std.proofs.Common.{Bool, true, subst}
use Rattle.std.specs.List.{slice_split, onto_first}
use Rattle.std.specs.Str.Lines.{lines, lines_of_parts, strip_carriage_return}
use Rattle.std.proofs.lemmas.List.{take_all, take_at, drop_at, length-append, append_assoc, length-drop}
use Rattle.std.proofs.lemmas.List.{length-take-le, nil_from_length}
use Rattle.std.proofs.lemmas.List.Splits.{slice_split_none, slice_split_at, slice_split-cons_yes, length-slice_split}
use Rattle.std.proofs.lemmas.Bool.{cases_Bool, ne_eqb, not-false, leb-true, and_parts}
use Rattle.std.proofs.lemmas.Bool.Decides.{nat_tests}
use Rattle.text_lines.specs.Cut.{Lacks}
use Rattle.text_lines.specs.WordsOfLine.{words, word_at, is_number, number_of, number_at, octets_of}
use Rattle.std.specs.Prelude.{Option, None, Some, Result, Ok, Err, option_map}
use Rattle.std.specs.Option.{option_or}
use Rattle.std.specs.Result.{result_unwrap_or}
use Rattle.hex.specs.Hex.{decode_of, IsBytes}
use Rattle.hex.specs.declared.error.FromHexError.{FromHexError}
use Rattle.hex.proofs.HexLemmas.{decode_of-ok}
use Rattle.text_lines.specs.declared.text_faults.FieldFault.TheVariants.{Number, Range, Size}
use Rattle.text_lines.specs.Fields.{Field, where_true, number_fault, octets_fault, field_fault, fields_fault}

-- ---- How a text is cut into lines, and a line into words.
none_in : (o : ℕ) (text : List ℕ) → Lacks o text → All (λ c. (c == o) ≡ false) text
none_in o text lacks i d within = ne_eqb _ o (lacks i d within)

-- what is left after the end of a text
pub end_is_empty : (text : List ℕ) (n : ℕ) → n ≡ 0 → take n (drop (length text) text) ≡ []
end_is_empty text n none =
    nil_from_length _ (omega (arith, none, length-drop (length text) text, length-take-le n (drop (length text) text)))

parts_more : (part : List ℕ) (parts : List (List ℕ)) → 0 < length parts
    → lines_of_parts (part ∷ parts) ≡ strip_carriage_return part ∷ lines_of_parts parts
parts_more part [] some = absurd (omega arith)
parts_more part (next ∷ parts) some = refl

part_last : (part : List ℕ) → 0 < length part → lines_of_parts (part ∷ []) ≡ part ∷ []
part_last part some = grind (arith, nat_tests)

-- a line and its LF, and what is after them
size_of : (text line rest : List ℕ) → text ≡ line ++ 10 ∷ rest → length text ≡ length line + 1 + length rest
size_of text line rest is = let size = ap (λ (t : List ℕ). length t) is in
    omega (arith, size, length-append line (10 ∷ rest))

in_parts : (text line rest : List ℕ) → text ≡ line ++ 10 ∷ rest → text ≡ (line ++ 10 ∷ []) ++ rest
in_parts text line rest is = is ∙ sym (append_assoc line (10 ∷ []) rest)

front_of : (text line rest : List ℕ) → text ≡ line ++ 10 ∷ rest
    → take (length text - length rest) text ≡ line ++ 10 ∷ []
front_of text line rest is =
    ap (take (length text - length rest)) (in_parts text line rest is)
    ∙ take_at (line ++ 10 ∷ []) rest (length text - length rest)
    (omega (arith, size_of text line rest is, length-append line (10 ∷ [])))

pub rest_of : (text line rest : List ℕ) → text ≡ line ++ 10 ∷ rest → rest ≡ drop (length text - length rest) text
rest_of text line rest is =
    sym (ap (drop (length text - length rest)) (in_parts text line rest is)
    ∙ drop_at (line ++ 10 ∷ []) rest (length text - length rest)
    (omega (arith, size_of text line rest is, length-append line (10 ∷ []))))

-- a line and its LF stand in front of the other lines
lines_front : (line rest : List ℕ) → Lacks 10 line → lines (line ++ 10 ∷ rest) ≡ strip_carriage_return line ∷ lines rest
lines_front line rest lacks =
    let split = slice_split_at (λ b. b == 10) line 10 rest (none_in 10 line lacks) refl in
    let some : 0 < length (slice_split (λ b. b == 10) rest) = omega (arith, length-slice_split (λ b. b == 10) rest) in
    ap lines_of_parts split ∙ parts_more line (slice_split (λ b. b == 10) rest) some

pub lines_cut : (text line rest stripped : List ℕ) → Lacks 10 line → text ≡ line ++ 10 ∷ rest
    → stripped ≡ strip_carriage_return line → lines text ≡ stripped ∷ lines rest
lines_cut text line rest stripped lacks is said = ap lines is ∙ lines_front line rest lacks
    ∙ ap (λ (t : List ℕ). t ∷ lines rest) (sym said)

-- the same of a line that other text follows
pub lines_whole : (text line rest stripped more : List ℕ) → Lacks 10 line → text ≡ line ++ 10 ∷ rest
    → stripped ≡ strip_carriage_return line
    → lines (take (length text - length rest) text ++ more) ≡ stripped ∷ lines more
lines_whole text line rest stripped more lacks is said =
    let part : take (length text - length rest) text ≡ line ++ 10 ∷ [] = front_of text line rest is in
    ap (λ (t : List ℕ). lines (t ++ more)) part ∙ ap lines (append_assoc line (10 ∷ []) more)
    ∙ lines_front line more lacks ∙ ap (λ (t : List ℕ). t ∷ lines more) (sym said)

pub lines_last : (text : List ℕ) (n : ℕ) → n ≡ 0 → Lacks 10 text → 0 < length text
    → lines text ≡ text ∷ lines (take n (drop (length text) text))
lines_last text n none lacks some =
    ap lines_of_parts (slice_split_none (λ b. b == 10) text (none_in 10 text lacks)) ∙ part_last text some
    ∙ ap (λ (t : List ℕ). text ∷ lines t) (sym (end_is_empty text n none))

-- a space in front says nothing
pub words_space : (c : ℕ) (text : List ℕ) → c ≡ 32 → words (c ∷ text) ≡ words text
unfolding words
words_space c text is = rw (slice_split-cons_yes (λ b. b == 32) c text (grind (arith, nat_tests))) refl

pub words_later : (text : List ℕ) (n d : ℕ) → 0 < length text → n ≡ length text - 1 → slice_index_or text 0 d ≡ 32
    → words (take n (drop 1 text)) ≡ words text
words_later [] n d some size is = absurd (omega arith)
words_later (c ∷ text) n d some size is = ap (λ (t : List ℕ). words t) (take_all n text (omega arith))
    ∙ sym (words_space c text is)

-- a word and its space stand in front of the other words
pub words_front : (word rest : List ℕ) → Lacks 32 word → 0 < length word → words (word ++ 32 ∷ rest) ≡ word ∷ words rest
unfolding words
words_front [] rest lacks some = absurd (omega arith)
words_front (c ∷ word) rest lacks some =
    rw (slice_split_at (λ b. b == 32) (c ∷ word) 32 rest (none_in 32 (c ∷ word) lacks) refl) refl

-- what has no space is one word
pub words_only : (word : List ℕ) → Lacks 32 word → 0 < length word → words word ≡ word ∷ []
unfolding words
words_only [] lacks some = absurd (omega arith)
words_only (c ∷ word) lacks some = rw (slice_split_none (λ b. b == 32) (c ∷ word) (none_in 32 (c ∷ word) lacks)) refl

pub words_none : words [] ≡ []
unfolding words
words_none = refl

-- the first octet of a text, which is no space, stands before what was cut at a space
pub word_is_some : (text word rest : List ℕ) → 0 < length text → text ≡ word ++ 32 ∷ rest
    → ((c : ℕ) (more : List ℕ) → text ≡ c ∷ more → c ≢ 32) → 0 < length word
word_is_some text [] rest some is first = absurd (first 32 rest is refl)
word_is_some text (c ∷ word) rest some is first = omega arith

pub words_cut : (line text word rest : List ℕ) → words text ≡ words line → 0 < length text → Lacks 32 word
    → text ≡ word ++ 32 ∷ rest
    → ((c : ℕ) (more : List ℕ) → text ≡ c ∷ more → c ≢ 32) → words line ≡ word ∷ words rest
words_cut line text word rest same some lacks is first =
    sym same ∙ ap (λ (t : List ℕ). words t) is ∙ words_front word rest lacks (word_is_some text word rest some is first)

pub words_last : (line text : List ℕ) (n : ℕ) → n ≡ 0 → words text ≡ words line → 0 < length text → Lacks 32 text
    → words line ≡ text ∷ words (take n (drop (length text) text))
words_last line text n none same some lacks =
    sym same ∙ words_only text lacks some
    ∙ ap (λ (t : List (List ℕ)). text ∷ t)
    (sym words_none ∙ ap (λ (t : List ℕ). words t) (sym (end_is_empty text n none)))

pub words_nothing : (line text : List ℕ) → words text ≡ words line → length text ≡ 0 → words line ≡ []
words_nothing line text same none = sym same ∙ ap (λ (t : List ℕ). words t) (nil_from_length text none) ∙ words_none

-- ---- how many lines
last_part : (part : List ℕ) → length (lines_of_parts (part ∷ [])) ≤ 1
last_part part =
    elim (cases_Bool (length part == 0)) [ inl none ↦ rw none (omega arith) | inr some ↦ rw some (omega arith) ]

more_parts : (c : ℕ) (parts : List (List ℕ))
    → length (lines_of_parts (onto_first c parts)) ≤ length (lines_of_parts parts) + 1
more_parts c [] = omega arith
more_parts c (part ∷ []) = let one = last_part (c ∷ part) in omega (arith, one)
more_parts c (part ∷ next ∷ parts) = omega arith

after_line : (parts : List (List ℕ)) → length (lines_of_parts ([] ∷ parts)) ≤ length (lines_of_parts parts) + 1
after_line [] = omega arith
after_line (part ∷ parts) = omega arith

-- no text has more lines than octets
pub lines_few : (text : List ℕ) → length (lines text) ≤ length text
lines_few [] = omega arith
lines_few (c ∷ text) =
    let less = lines_few text in
    let parts : List (List ℕ) = slice_split (λ b. b == 10) text in
    elim (cases_Bool (c == 10)) [
      | inl ends ↦ rw ends (let one = after_line parts in omega (arith, less, one))
      | inr other ↦ rw other (let one = more_parts c parts in omega (arith, less, one))
    ]

-- ---- What words without a fault say.
-- ---- faults that aren't there
pub or_none : {T : Type 0} (f g : Option T) → option_or f g ≡ None → (f ≡ None) × (g ≡ None)
or_none None g none = (refl, none)
or_none (Some x) g none = absurd cc

pub where_none : {K : Type 0} (b : Bool) (fault : K) → where_true b fault ≡ None → b ≡ false
where_none true fault none = absurd cc
where_none false fault none = refl

pub map_none : {T K : Type 0} (wrap : T → K) (f : Option T) → option_map wrap f ≡ None → f ≡ None
map_none wrap None none = refl
map_none wrap (Some x) none = absurd cc

inside : (least most n : ℕ) → not (nat_le least n && nat_le n most) ≡ false → (least ≤ n) × (n ≤ most)
inside least most n e =
    let is = and_parts (nat_le least n) (nat_le n most) (not-false (nat_le least n && nat_le n most) e) in
    (leb-true least n is.0, leb-true n most is.1)

-- ---- words
pub number_ok : (at least most : ℕ) (w : List ℕ) → number_fault at least most w ≡ None
    → (least ≤ number_of w) × (number_of w ≤ most)
number_ok at least most w none =
    let later = or_none (where_true (not (is_number w)) (Number at))
    (where_true (not (nat_le least (number_of w) && nat_le (number_of w) most)) (Range at least most)) none in
    inside least most (number_of w)
    (where_none (not (nat_le least (number_of w) && nat_le (number_of w) most)) (Range at least most) later.1)

-- octets, from least to most of them
pub record AreOctets (least most : ℕ) (octets : List ℕ) : Type 0 where
  pub size : (least ≤ length octets) × (length octets ≤ most)
  pub each : All (λ octet. octet < 256) octets

bytes_all : (xs : List ℕ) → IsBytes xs → All (λ octet. octet < 256) xs
bytes_all [] are i d low = absurd (omega arith)
bytes_all (x ∷ xs) are zero d low = are 0
bytes_all (x ∷ xs) are (suc i) d low = bytes_all xs (λ j. are (suc j)) i d (omega arith)

digits_read : (at least most : ℕ) (w : List ℕ) (r : Result (List ℕ) FromHexError) → decode_of w ≡ r
    → octets_fault at least most r ≡ None
    → AreOctets least most (octets_of w)
digits_read at least most w (Err e) is none = absurd cc
digits_read at least most w (Ok octets) is none =
    let same : octets ≡ octets_of w = sym (ap (λ (r : Result (List ℕ) FromHexError). result_unwrap_or r []) is) in
    subst (AreOctets least most) same
    (record {
      size = inside least most (length octets)
          (where_none (not (nat_le least (length octets) && nat_le (length octets) most)) (Size at least most) none);
      each = bytes_all octets (decode_of-ok w octets is).3;
    })

pub digits_ok : (at least most : ℕ) (w : List ℕ) → octets_fault at least most (decode_of w) ≡ None
    → AreOctets least most (octets_of w)
digits_ok at least most w none = digits_read at least most w (decode_of w) refl none

-- ---- the words of a line, by their number; the first of them has a place
pub one_field : (f : Field) (at : ℕ) (ws : List (List ℕ)) → length ws ≡ 1 → fields_fault (f ∷ []) at 0 ws ≡ None
    → field_fault f at 0 (word_at 0 ws) ≡ None
one_field f at [] size none = absurd (omega (arith, size))
one_field f at (w ∷ ws) size none = (or_none (field_fault f at 0 w) (fields_fault [] (at + 1) (number_of w) ws) none).0

pub two_fields : (f g : Field) (at n : ℕ) (ws : List (List ℕ)) → length ws ≡ 2 →
    fields_fault (f ∷ g ∷ []) at n ws ≡ None
    → (field_fault f at n (word_at 0 ws) ≡ None) × (field_fault g (at + 1) (number_at 0 ws) (word_at 1 ws) ≡ None)
two_fields f g at n (w ∷ v ∷ ws) size none =
    let is = or_none (field_fault f at n w) (fields_fault (g ∷ []) (at + 1) (number_of w) (v ∷ ws)) none in
    (is.0, (or_none (field_fault g (at + 1) (number_of w) v) (fields_fault [] (at + 1 + 1) (number_of v) ws) is.1).0)
two_fields f g at n ws size none = absurd (omega (arith, size))

pub record FourFields (f g h k : Field) (at : ℕ) (ws : List (List ℕ)) : Type 0 where
  pub first : field_fault f at 0 (word_at 0 ws) ≡ None
  pub second : field_fault g (at + 1) (number_at 0 ws) (word_at 1 ws) ≡ None
  pub third : field_fault h (at + 1 + 1) (number_at 1 ws) (word_at 2 ws) ≡ None
  pub fourth : field_fault k (at + 1 + 1 + 1) (number_at 2 ws) (word_at 3 ws) ≡ None

pub four_fields : (f g h k : Field) (at : ℕ) (ws : List (List ℕ)) → length ws ≡ 4
    → fields_fault (f ∷ g ∷ h ∷ k ∷ []) at 0 ws ≡ None → FourFields f g h k at ws
four_fields f g h k at (w ∷ v ∷ ws) size none =
    let one = or_none (field_fault f at 0 w) (fields_fault (g ∷ h ∷ k ∷ []) (at + 1) (number_of w) (v ∷ ws)) none in
    let two = or_none (field_fault g (at + 1) (number_of w) v) (fields_fault (h ∷ k ∷ []) (at + 1 + 1) (number_of v) ws)
    one.1 in
    let rest = two_fields h k (at + 1 + 1) (number_of v) ws (omega (arith, size)) two.1 in
    record { first = one.0; second = two.0; third = rest.0; fourth = rest.1 }
four_fields f g h k at ws size none = absurd (omega (arith, size))
