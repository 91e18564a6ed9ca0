-- Facts on lists and numbers that the standard library lacks, and of which several crates make use.
use Rattle.std.proofs.Common.{IsSome, ◌≡◌, ◌⊎◌, true, false, not, Bool, ℕ, zero, suc, ◌+◌, ◌-◌, ◌<◌, ◌≤◌, List, [], ◌∷◌}
use Rattle.std.proofs.Common.{◌++◌, length, take, drop, map, filter, replicate, All, Contains, slice_get}
use Rattle.std.proofs.Common.{slice_index_or, Option, Some, None, is_none, option_map, refl, sym, ◌∙◌, ap, ap₂, inl}
use Rattle.std.proofs.Common.{inr, arith, append-nil, flat_map, map-id, length-append, length-take, length-take-le}
use Rattle.std.proofs.Common.{length-drop, take-add}
use Rattle.std.specs.List.{range_with_len}
use Rattle.std.specs.List.Sorted.{IsNonDecreasing, IsNonDecreasingBy}
use Rattle.std.proofs.lemmas.Bool.{cases_Bool, cases_lt}
use Rattle.std.proofs.lemmas.List.{take-append-le, drop-append-le, take_rest, drop_all, drop-take}
use Rattle.std.proofs.lemmas.List.Concat.{flat_map-append}
use Rattle.std.proofs.lemmas.List.Elements.{All-nil, All-cons, All-head, All-tail}
use Rattle.std.proofs.lemmas.List.FromFn.{length-map-range_with_len, get_or-map-range_with_len, map-range_with_len_more}
use Rattle.std.proofs.lemmas.Option.{slice_get-get_or}
use Rattle.std.proofs.Math.Seq.{take-append-add}
pub use Rattle.check_nibbles.proofs.CellsInStepLaws.{slice_get-append, slice_get-append_seam}

-- Facts on lists and numbers that the standard library lacks, and of which several crates make use.
-- ---- an element that is there, or not
pub slice_get-inside : {X : Type 0} (xs : List X) (k : ℕ) → k < length xs → (x : X) × (slice_get xs k ≡ Some x)
slice_get-inside [] k h = absurd (omega arith)
slice_get-inside (x ∷ xs) zero h = (x, refl)
slice_get-inside (x ∷ xs) (suc k) h = slice_get-inside xs k (omega arith)

pub slice_get-none : {X : Type 0} (xs : List X) (i : ℕ) → i < length xs → slice_get xs i ≡ None → ⊥
slice_get-none [] i inside e = omega arith
slice_get-none (x ∷ xs) zero inside e = absurd cc
slice_get-none (x ∷ xs) (suc i) inside e = slice_get-none xs i (omega arith) e

pub none-beyond : {X : Type 0} (xs : List X) (t : ℕ) → slice_get xs t ≡ None → length xs ≤ t
none-beyond [] t e = omega arith
none-beyond (x ∷ xs) zero e = absurd cc
none-beyond (x ∷ xs) (suc t) e = let rest = none-beyond xs t e in omega arith

pub is-some : {X : Type 0} (o : Option X) → IsSome o → (x : X) × (o ≡ Some x)
is-some (Some x) h = (x, refl)
is-some None h = absurd (let e : false ≡ true = h in cc)

-- ---- an element of a part
pub slice_get-after : {X : Type 0} (xs ys : List X) (t : ℕ) → length xs ≤ t →
    slice_get (xs ++ ys) t ≡ slice_get ys (t - length xs)
slice_get-after [] ys t h = ap (slice_get ys) (let e : t ≡ t - 0 = omega arith in e)
slice_get-after (x ∷ xs) ys zero h = absurd (omega arith)
slice_get-after (x ∷ xs) ys (suc t) h = slice_get-after xs ys t (omega arith)
    ∙ ap (slice_get ys) (let e : t - length xs ≡ suc t - suc (length xs) = omega arith in e)

pub slice_get-take : {X : Type 0} (xs : List X) (n k : ℕ) (x : X) → slice_get (take n xs) k ≡ Some x →
    slice_get xs k ≡ Some x
slice_get-take [] zero k x e = e
slice_get-take [] (suc n) k x e = e
slice_get-take (y ∷ ys) zero k x e = absurd cc
slice_get-take (y ∷ ys) (suc n) zero x e = e
slice_get-take (y ∷ ys) (suc n) (suc k) x e = slice_get-take ys n k x e

pub slice_get-drop : {X : Type 0} (xs : List X) (n k : ℕ) → slice_get (drop n xs) k ≡ slice_get xs (n + k)
slice_get-drop xs zero k = ap (slice_get xs) (let e : k ≡ 0 + k = omega arith in e)
slice_get-drop [] (suc n) k = refl
slice_get-drop (x ∷ xs) (suc n) k = slice_get-drop xs n k
    ∙ ap (slice_get (x ∷ xs)) (let e : suc (n + k) ≡ suc n + k = omega arith in e)

-- ---- a prefix, and an element and those before it
pub take-part : {X : Type 0} (xs : List X) (n m : ℕ) → n ≤ m → (more : List X) × (take m xs ≡ take n xs ++ more)
take-part xs zero m h = (take m xs, refl)
take-part xs (suc n) zero h = absurd (omega arith)
take-part [] (suc n) (suc m) h = ([], refl)
take-part (x ∷ xs) (suc n) (suc m) h = let (more, e) = take-part xs n m (omega arith) in (more, ap (λ l. x ∷ l) e)

pub take-next : {X : Type 0} (xs : List X) (i : ℕ) (x : X) → slice_get xs i ≡ Some x →
    take (suc i) xs ≡ take i xs ++ x ∷ []
take-next [] i x e = absurd cc
take-next (y ∷ ys) zero x e = ap (λ y. y ∷ []) cc
take-next (y ∷ ys) (suc i) x e = ap (λ l. y ∷ l) (take-next ys i x e)

pub append_one : {X : Type 0} (xs : List X) (y : X) (ys : List X) → xs ++ y ∷ ys ≡ (xs ++ y ∷ []) ++ ys
append_one [] y ys = refl
append_one (x ∷ xs) y ys = ap (λ l. x ∷ l) (append_one xs y ys)

pub cut-at : {X : Type 0} (xs : List X) (i : ℕ) (x : X) → slice_get xs i ≡ Some x →
    (take i xs ++ x ∷ []) ++ drop (suc i) xs ≡ xs
cut-at [] i x e = absurd cc
cut-at (y ∷ ys) zero x e = ap (λ y. y ∷ ys) cc
cut-at (y ∷ ys) (suc i) x e = ap (λ l. y ∷ l) (cut-at ys i x e)

pub take-one : {X : Type 0} (xs : List X) (i : ℕ) (x : X) → slice_get xs i ≡ Some x →
    take (i + 1) xs ≡ take i xs ++ x ∷ []
take-one xs i x e = ap (λ k. take k xs) (let h : i + 1 ≡ suc i = omega arith in h) ∙ take-next xs i x e

pub drop-next : {X : Type 0} (xs : List X) (i : ℕ) (x : X) → slice_get xs i ≡ Some x →
    drop i xs ≡ x ∷ drop (suc i) xs
drop-next [] i x e = absurd cc
drop-next (y ∷ ys) zero x e = ap (λ y. y ∷ ys) cc
drop-next (y ∷ ys) (suc i) x e = drop-next ys i x e

-- ---- an element that was read, or the last one
pub at-index : {X : Type 0} (xs : List X) (i : ℕ) (x : X) → i < length xs → x ≡ slice_index_or xs i x →
    slice_get xs i ≡ Some x
at-index [] i x h e = absurd (omega arith)
at-index (y ∷ ys) zero x h e = ap Some (sym e)
at-index (y ∷ ys) (suc i) x h e = at-index ys i x (omega arith) e

pub get-last : {X : Type 0} (xs : List X) (x : X) (m : ℕ) (y : X) → slice_get (xs ++ x ∷ []) m ≡ Some y →
    (slice_get xs m ≡ Some y) ⊎ ((m ≡ length xs) × (y ≡ x))
get-last [] x zero y e = inr (refl, let h : y ≡ x = cc in h)
get-last [] x (suc m) y e = absurd cc
get-last (z ∷ xs) x zero y e = inl e
get-last (z ∷ xs) x (suc m) y e = elim (get-last xs x m y e) [
  | inl there ↦ inl there
  | inr last ↦ inr (ap suc last.0, last.1)
]

pub some-none : {X : Type 0} (o : Option X) → IsSome o → is_none o ≡ false
some-none None is = sym is
some-none (Some x) is = refl

pub map-none : {X Y : Type 0} (f : X → Y) (o : Option X) → option_map f o ≡ None → o ≡ None
map-none f None e = refl
map-none f (Some x) e = absurd cc

-- ---- parts of lists
pub take-few : {X : Type 0} (n : ℕ) (xs : List X) → length (take n xs) ≤ n
take-few n xs = omega (arith, length-take n xs)

pub drop-part : {X : Type 0} (k n : ℕ) (xs : List X) → drop k (take n xs) ≡ take (n - k) (drop k xs)
drop-part k n xs = elim (cases_lt n k) [
  | inl past ↦ (
      let none : drop k (take n xs) ≡ [] = drop_all k (take n xs) (omega (arith, length-take n xs, past)) in
      let zero_left : n - k ≡ 0 = omega (arith, past) in
      none ∙ ap (λ count. take count (drop k xs)) (sym zero_left))
  | inr within ↦ (
      let all : k + (n - k) ≡ n = omega (arith, within) in
      ap (λ count. drop k (take count xs)) (sym all) ∙ drop-take k (n - k) xs)
]

-- the first octets, and then the first of those behind
pub take-further : {X : Type 0} (at n : ℕ) (xs : List X) →
    take (at + n) xs ≡ take at xs ++ take n (take (length xs - at) (drop at xs))
take-further at n xs = take-add at n xs ∙ ap (λ l. take at xs ++ take n l) (sym (take_rest xs at))

-- what stands in the first part of a list
pub within-append : {X : Type 0} (n k : ℕ) (xs more : List X) → n + k ≤ length xs →
    take k (drop n (xs ++ more)) ≡ take k (drop n xs)
within-append n k xs more within =
    ap (take k) (drop-append-le n xs more (omega arith))
    ∙ take-append-le k (drop n xs) more (omega (arith, length-drop n xs))

-- what stands in the first part of a slice after a part of it was written
pub take-written : {X : Type 0} (at n : ℕ) (out part back : List X) → at ≤ length out → n ≤ length part →
    take (at + n) (take at out ++ (part ++ back)) ≡ take at out ++ take n part
take-written at n out part back within some =
    let front = length-take-le at out within in
    ap (λ k. take (k + n) (take at out ++ (part ++ back))) (sym front) ∙ take-append-add (take at out) (part ++ back) n
    ∙ ap (λ xs. take at out ++ xs) (take-append-le n part back some)

pub length-more : {X : Type 0} (before all : List X) (x : X) (n : ℕ) → all ≡ before ++ x ∷ [] → n ≡ length before →
    n + 1 ≡ length all
length-more before all x n e is = ap (λ m. m + 1) is ∙ sym (ap length e ∙ length-append before (x ∷ []))

-- ---- what holds of all, of some, and in order
pub All-front : {X : Type 0} (P : X → Type 0) (xs ys : List X) → All P (xs ++ ys) → All P xs
All-front P [] ys all = All-nil P
All-front P (x ∷ xs) ys all = All-cons P x xs (All-head P x (xs ++ ys) all)
    (All-front P xs ys (All-tail P x (xs ++ ys) all))

pub All-after : {X : Type 0} (P : X → Type 0) (xs ys : List X) → All P (xs ++ ys) → All P ys
All-after P [] ys all = all
All-after P (x ∷ xs) ys all = All-after P xs ys (All-tail P x (xs ++ ys) all)

pub contains-parts : {X : Type 0} (first : X) (rest : List X) (x : X) → Contains (first ∷ rest) x →
    (first ≡ x) ⊎ Contains rest x
contains-parts first rest x (zero, inside, is) = inl is
contains-parts first rest x (suc k, inside, is) = inr (k, omega arith, is)

pub rest-in_order : (x : ℕ) (xs : List ℕ) → IsNonDecreasing (x ∷ xs) → IsNonDecreasing xs
rest-in_order x xs sorted i j d low high = sorted (suc i) (suc j) d (omega arith) (omega arith)

pub rest-sorted : {X : Type 0} (key : X → ℕ) (x : X) (xs : List X) → IsNonDecreasingBy key (x ∷ xs) →
    IsNonDecreasingBy key xs
rest-sorted key x xs sorted i j d low high = sorted (suc i) (suc j) d (omega arith) (omega arith)

pub filter-few : {X : Type 0} (p : X → Bool) (xs : List X) → length (filter p xs) ≤ length xs
filter-few p [] = omega arith
filter-few p (x ∷ xs) =
    let rest = filter-few p xs in
    elim (cases_Bool (p x)) [ inl e ↦ rw e (omega (arith, rest)) | inr e ↦ rw e (omega (arith, rest)) ]

-- ---- lists that are made by number
pub replicate-at : {X : Type 0} (n : ℕ) (x : X) (k : ℕ) → slice_index_or (replicate n x) k x ≡ x
replicate-at zero x k = refl
replicate-at (suc n) x zero = refl
replicate-at (suc n) x (suc k) = replicate-at n x k

pub map-same_range : {X : Type 0} (f g : ℕ → X) (from count : ℕ) → ((j : ℕ) → j < from + count → f j ≡ g j) →
    map f (range_with_len from count) ≡ map g (range_with_len from count)
map-same_range f g from zero same = refl
map-same_range f g from (suc count) same =
    ap₂ (λ x xs. x ∷ xs) (same from (omega arith)) (map-same_range f g (from + 1) count (λ j low. same j (omega arith)))

pub at-range : {X : Type 0} (f : ℕ → X) (n m : ℕ) → m < n → slice_get (map f (range_with_len 0 n)) m ≡ Some (f m)
at-range f n m low =
    let long = length-map-range_with_len f 0 n in
    slice_get-get_or (map f (range_with_len 0 n)) m (f m) (omega arith)
    ∙ ap Some (get_or-map-range_with_len f 0 n m m (f m) low (omega arith))

pub range-more : (n : ℕ) → range_with_len 0 (n + 1) ≡ range_with_len 0 n ++ n ∷ []
range-more n =
    sym (map-id (range_with_len 0 (n + 1))) ∙ map-range_with_len_more (λ (k : ℕ). k) 0 n n (omega arith)
    ∙ ap (λ l. l ++ n ∷ []) (map-id (range_with_len 0 n))

pub texts-more : (f : ℕ → List ℕ) (n : ℕ) →
    flat_map f (range_with_len 0 (n + 1)) ≡ flat_map f (range_with_len 0 n) ++ f n
texts-more f n =
    ap (flat_map f) (range-more n) ∙ flat_map-append f (range_with_len 0 n) (n ∷ [])
    ∙ ap (λ l. flat_map f (range_with_len 0 n) ++ l) (append-nil (f n))

-- ---- tests
pub not-not : (b : Bool) → not (not b) ≡ b
not-not true = refl
not-not false = refl
