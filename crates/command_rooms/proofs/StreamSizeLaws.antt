-- The sizes of a word, part by part, and that they meet their bounds.
use Rattle.std.proofs.Common.{◌≡◌, ℕ, ◌+◌, ◌<◌, ◌≤◌, ◌==◌, Bool, true, false, nat_le, List, [], ◌∷◌, ◌++◌, length, map}
use Rattle.std.proofs.Common.{Option, Some, None, refl, sym, ap, ◌∙◌, arith, inl, inr, append_assoc, length-append}
use Rattle.std.specs.List.{slice_split}
use Rattle.std.specs.Option.{option_map}
use Rattle.std.specs.Prelude.{IfSome, suc, ◌&&◌}
use Rattle.std.proofs.lemmas.Bool.{cases_lt, le-leb, leb-true, cases_Bool, and_parts}
use Rattle.std.proofs.lemmas.List.Elements.{All-nil, All-cons}
use Rattle.std.proofs.lemmas.List.Splits.{length-slice_split}
use Rattle.law_rates.specs.Limits.{most_sizes, shortest_frame, longest_frame}
use Rattle.law_rates.proofs.RateFrameLaws.{AreSizes}
use Rattle.law_model.specs.Common.{IsWithin}
use Rattle.text_lines.specs.Cut.{Lacks}
use Rattle.text_lines.specs.WordsOfLine.{number_of}
use Rattle.text_scripts.proofs.StreamWordLaws.{parts_cut as words_cut, parts_last as words_last}
use Rattle.command_words.specs.CommandLineWords.{number_in, is_number}
use Rattle.command_rooms.specs.commands.Stream.{all_of, few_of, sizes_in, with_size}

abbrev pub parts : List ℕ → List (Option ℕ)
parts word = map (number_in shortest_frame longest_frame) (slice_split (λ c. c == 44) word)

abbrev pub joined : List ℕ → Option (List ℕ) → Option (List ℕ)
joined sizes None = None
joined sizes (Some others) = Some (sizes ++ others)

-- ---- the parts of a word
pub parts_cut : (word part later : List ℕ) → Lacks 44 part → word ≡ part ++ 44 ∷ later →
    parts word ≡ number_in shortest_frame longest_frame part ∷ parts later
parts_cut word part later lacks is =
    ap (map (number_in shortest_frame longest_frame)) (words_cut word part later lacks is)

pub parts_last : (word : List ℕ) → Lacks 44 word → parts word ≡ number_in shortest_frame longest_frame word ∷ []
parts_last word lacks = ap (map (number_in shortest_frame longest_frame)) (words_last word lacks)

-- ---- one size more
pub joined_none : (sizes : Option (List ℕ)) → sizes ≡ joined [] sizes
joined_none None = refl
joined_none (Some sizes) = refl

joined_next : (front : List ℕ) (n : ℕ) (others : Option (List ℕ)) →
    joined front (option_map (λ ns. n ∷ ns) others) ≡ joined (front ++ n ∷ []) others
joined_next front n None = refl
joined_next front n (Some others) = ap Some (sym (append_assoc front (n ∷ []) others))

has_room : (sizes : List ℕ) → length sizes < 16 → nat_le 16 (length sizes) ≡ false
has_room sizes room =
    elim (cases_Bool (nat_le 16 (length sizes))) [
      | inl full ↦ (let long = leb-true 16 (length sizes) full in absurd (omega (arith, long, room)))
      | inr free ↦ free
    ]

too_many : (sizes : List ℕ) → 16 < length sizes → nat_le (length sizes) 16 ≡ false
too_many sizes many =
    elim (cases_Bool (nat_le (length sizes) 16)) [
      | inl few ↦ (let short = leb-true (length sizes) 16 few in absurd (omega (arith, short, many)))
      | inr other ↦ other
    ]

added : (sizes : List ℕ) (n : ℕ) → length sizes < 16 → with_size sizes (Some n) ≡ Some (sizes ++ n ∷ [])
added sizes n room = rw (has_room sizes room) refl

full : (sizes : List ℕ) (n : ℕ) → 16 ≤ length sizes → with_size sizes (Some n) ≡ None
full sizes n many = rw (le-leb 16 (length sizes) many) refl

pub size_more : (all : Option (List ℕ)) (sizes next : List ℕ) (number : Option ℕ) (others : List (Option ℕ)) →
    all ≡ joined sizes (all_of (number ∷ others)) → Some next ≡ with_size sizes number →
    (all ≡ joined next (all_of others)) × (length next ≤ 16)
size_more all sizes next None others is more = absurd cc
size_more all sizes next (Some n) others is more =
    elim (cases_lt (length sizes) 16) [
      | inl room ↦ (
          let same : next ≡ sizes ++ n ∷ [] = (let e = more ∙ added sizes n room in cc) in
          let long = length-append sizes (n ∷ []) in
          let size = ap length same in (
            is ∙ joined_next sizes n (all_of others) ∙ ap (λ front. joined front (all_of others)) (sym same),
            omega (arith, size, long, room),
          ))
      | inr many ↦ (let e = more ∙ full sizes n many in absurd cc)
    ]

none_fit : (sizes : List ℕ) (n : ℕ) (others : Option (List ℕ)) → 16 ≤ length sizes →
    few_of (joined sizes (option_map (λ ns. n ∷ ns) others)) ≡ None
none_fit sizes n None many = refl
none_fit sizes n (Some others) many =
    let long = length-append sizes (n ∷ others) in
    rw (too_many (sizes ++ n ∷ others) (omega (arith, long, many))) refl

pub size_fault : (all : Option (List ℕ)) (sizes : List ℕ) (number : Option ℕ) (others : List (Option ℕ)) →
    all ≡ joined sizes (all_of (number ∷ others)) → None ≡ with_size sizes number → few_of all ≡ None
size_fault all sizes None others is fault = ap few_of is
size_fault all sizes (Some n) others is fault =
    elim (cases_lt (length sizes) 16) [
      | inl room ↦ (let e = fault ∙ added sizes n room in absurd cc)
      | inr many ↦ ap few_of is ∙ none_fit sizes n (all_of others) many
    ]

pub size_last : (all : Option (List ℕ)) (sizes : List ℕ) (number : Option ℕ) →
    all ≡ joined sizes (all_of (number ∷ [])) → length sizes ≤ 16 → with_size sizes number ≡ few_of all
size_last all sizes None is few = sym (ap few_of is)
size_last all sizes (Some n) is few =
    let long = length-append sizes (n ∷ []) in
    elim (cases_lt (length sizes) 16) [
      | inl room ↦ (
          let fits : nat_le (length (sizes ++ n ∷ [])) 16 ≡ true =
          le-leb (length (sizes ++ n ∷ [])) 16 (omega (arith, long, room)) in
          added sizes n room ∙ sym (ap few_of is ∙ rw fits refl))
      | inr many ↦ full sizes n many ∙ sym (ap few_of is ∙ none_fit sizes n (Some []) many)
    ]

-- ---- bounds
pub number-fits : (least most : ℕ) (w : List ℕ) → IfSome (number_in least most w) (IsWithin least most)
number-fits least most w =
    elim (cases_Bool (is_number w && (nat_le least (number_of w) && nat_le (number_of w) most))) [
      | inl within ↦
          let both = and_parts (nat_le least (number_of w)) (nat_le (number_of w) most)
          (and_parts (is_number w) (nat_le least (number_of w) && nat_le (number_of w) most) within).1 in
          rw within (leb-true least (number_of w) both.0, leb-true (number_of w) most both.1)
      | inr outside ↦ rw outside tt
    ]

-- sizes that fit, as many as a number says
abbrev FitAll : ℕ → List ℕ → Type 0
FitAll count sizes = (length sizes ≡ count) × AreSizes sizes

size-fits : (n count : ℕ) (others : Option (List ℕ)) → IsWithin shortest_frame longest_frame n → IfSome others (FitAll count) →
    IfSome (option_map (λ ns. n ∷ ns) others) (FitAll (suc count))
size-fits n count None a b = tt
size-fits n count (Some ns) a b = (ap suc b.0, All-cons (λ size. (shortest_frame ≤ size) × (size ≤ longest_frame)) n ns a b.1)

next-fits : (first : Option ℕ) (others : List (Option ℕ)) (count : ℕ) → IfSome first (IsWithin shortest_frame longest_frame) →
    IfSome (all_of others) (FitAll count) → IfSome (all_of (first ∷ others)) (FitAll (suc count))
next-fits None others count a b = tt
next-fits (Some n) others count a b = size-fits n count (all_of others) a b

all-fit : (ws : List (List ℕ)) → IfSome (all_of (map (number_in shortest_frame longest_frame) ws)) (FitAll (length ws))
all-fit [] = (refl, All-nil (λ size. (shortest_frame ≤ size) × (size ≤ longest_frame)))
all-fit (w ∷ ws) = next-fits (number_in shortest_frame longest_frame w) (map (number_in shortest_frame longest_frame) ws) (length ws)
    (number-fits shortest_frame longest_frame w) (all-fit ws)

-- those of a rate
abbrev pub FitRate : List ℕ → Type 0
FitRate sizes = (1 ≤ length sizes) × (length sizes ≤ most_sizes) × AreSizes sizes

few-fit : (sizes : Option (List ℕ)) (count : ℕ) → 1 ≤ count → IfSome sizes (FitAll count) → IfSome (few_of sizes) FitRate
few-fit None count some a = tt
few-fit (Some sizes) count some a =
    elim (cases_Bool (nat_le (length sizes) most_sizes)) [
      | inl few ↦ (let size = a.0 in rw few (omega (arith, size, some), leb-true (length sizes) most_sizes few, a.1))
      | inr many ↦ rw many tt
    ]

pub sizes-fit : (word : List ℕ) → IfSome (sizes_in word) FitRate
sizes-fit word =
    let size = length-slice_split (λ c. c == 44) word in
    few-fit (all_of (map (number_in shortest_frame longest_frame) (slice_split (λ c. c == 44) word)))
    (length (slice_split (λ c. c == 44) word)) (omega (arith, size)) (all-fit (slice_split (λ c. c == 44) word))
