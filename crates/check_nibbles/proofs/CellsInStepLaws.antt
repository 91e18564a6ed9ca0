-- Cells in step: more cells after a cell change nothing of it, and how one cell follows from the cell before it.
use Rattle.std.proofs.Common.{◌≡◌, ℕ, zero, suc, ◌+◌, ◌-◌, ◌*◌, ◌/◌, ◌%◌, ◌<◌, ◌≤◌, inl, inr, List, [], ◌∷◌, ◌++◌}
use Rattle.std.proofs.Common.{length, Option, Some, slice_get, refl, sym, ◌∙◌, ap, subst, arith, eq-or-lt_of_le}
use Rattle.std.proofs.lemmas.Bool.{cases_order}
use Rattle.std.proofs.lemmas.Option.{slice_get_within}
use Rattle.check_nibbles.specs.MultiframeLock.{HasMfi1, IsInStep, IsFirstStep, IsOutOfStep, HasMfi2, Locks, IsAt, HasNumber}

-- ---- more cells
pub slice_get-append : {X : Type 0} (xs ys : List X) (k : ℕ) → k < length xs → slice_get (xs ++ ys) k ≡ slice_get xs k
slice_get-append [] ys k h = absurd (omega arith)
slice_get-append (x ∷ xs) ys zero h = refl
slice_get-append (x ∷ xs) ys (suc k) h = slice_get-append xs ys k (omega arith)

pub slice_get-append_seam : {X : Type 0} (xs : List X) (y : X) (ys : List X) →
    slice_get (xs ++ y ∷ ys) (length xs) ≡ Some y
slice_get-append_seam [] y ys = refl
slice_get-append_seam (x ∷ xs) y ys = slice_get-append_seam xs y ys

pub HasMfi1-append : (cells more : List (Option ℕ)) (k mfi1 : ℕ) → HasMfi1 cells k mfi1 → HasMfi1 (cells ++ more) k mfi1
HasMfi1-append cells more k mfi1 has =
    (has.0, slice_get-append cells more k (slice_get_within cells k (Some has.0) has.1) ∙ has.1, has.2)

pub HasMfi1_before : (cells more : List (Option ℕ)) (k mfi1 : ℕ) → k < length cells → HasMfi1 (cells ++ more) k mfi1 →
    HasMfi1 cells k mfi1
HasMfi1_before cells more k mfi1 inside has = (has.0, sym (slice_get-append cells more k inside) ∙ has.1, has.2)

pub IsInStep-append : (cells more : List (Option ℕ)) (from place : ℕ) → IsInStep cells from place →
    IsInStep (cells ++ more) from place
IsInStep-append cells more from place step = record {
  later = step.later;
  rises = λ k low high. HasMfi1-append cells more k ((k - from) % 16) (step.rises k low high);
}

pub IsInStep_before : (cells more : List (Option ℕ)) (from place : ℕ) → place < length cells →
    IsInStep (cells ++ more) from place → IsInStep cells from place
IsInStep_before cells more from place inside step = record {
  later = step.later;
  rises = λ k low high. HasMfi1_before cells more k ((k - from) % 16) (omega arith) (step.rises k low high);
}

-- a cell in step is one of the list
pub IsInStep-inside : (cells : List (Option ℕ)) (from place : ℕ) → IsInStep cells from place → place < length cells
IsInStep-inside cells from place step =
    let later = step.later in
    let has = step.rises place (omega arith) (omega arith) in
    slice_get_within cells place (Some has.0) has.1

pub IsFirstStep-append : (cells more : List (Option ℕ)) (from place : ℕ) → IsFirstStep cells from place →
    IsFirstStep (cells ++ more) from place
IsFirstStep-append cells more from place first = record {
  in_step = IsInStep-append cells more from place first.in_step;
  first = λ k before step. first.first k before
      (IsInStep_before cells more k place (IsInStep-inside cells from place first.in_step) step);
}

pub IsOutOfStep-append : (cells more : List (Option ℕ)) (place : ℕ) → place < length cells → IsOutOfStep cells place →
    IsOutOfStep (cells ++ more) place
IsOutOfStep-append cells more place inside out from step = out from (IsInStep_before cells more from place inside step)

pub HasMfi2-append : (cells more : List (Option ℕ)) (place mfi2 : ℕ) → HasMfi2 cells place mfi2 →
    HasMfi2 (cells ++ more) place mfi2
HasMfi2-append cells more place mfi2 has = (
  has.0,
  has.1,
  slice_get-append cells more place (slice_get_within cells place (Some has.0) has.2) ∙ has.2,
  slice_get-append cells more (place + 1) (slice_get_within cells (place + 1) (Some has.1) has.3) ∙ has.3,
  has.4,
)

pub Locks-append : (cells more : List (Option ℕ)) (place : ℕ) → Locks cells place → Locks (cells ++ more) place
Locks-append cells more place locks = (locks.0, IsFirstStep-append cells more locks.0 place locks.1, locks.2)

pub IsAt-append : (cells more : List (Option ℕ)) (place : ℕ) → IsAt cells place → IsAt (cells ++ more) place
IsAt-append cells more place at = (at.0, IsFirstStep-append cells more at.0 place at.1, at.2)

pub HasNumber-append : (cells more : List (Option ℕ)) (place number : ℕ) → HasNumber cells place number →
    HasNumber (cells ++ more) place number
HasNumber-append cells more place number has =
    (has.0, has.1, IsFirstStep-append cells more has.0 place has.2, HasMfi2-append cells more has.0 has.1 has.3, has.4)

-- ---- only one
Some-injective : (a b : ℕ) → Some (Some a) ≡ Some (Some b) → a ≡ b
Some-injective a b e = cc

pub HasMfi1_only : (cells : List (Option ℕ)) (k a b : ℕ) → HasMfi1 cells k a → HasMfi1 cells k b → a ≡ b
HasMfi1_only cells k a b p q = sym p.2 ∙ ap (λ octet. octet % 16) (Some-injective p.0 q.0 (sym p.1 ∙ q.1)) ∙ q.2

pub IsFirstStep_only : (cells : List (Option ℕ)) (a b place : ℕ) → IsFirstStep cells a place →
    IsFirstStep cells b place → a ≡ b
IsFirstStep_only cells a b place p q =
    elim (cases_order a b) [
      | inl same ↦ same
      | inr other ↦ elim other [
        | inl before ↦ absurd (q.first a before p.in_step)
        | inr before ↦ absurd
            (p.first b before q.in_step)
      ]
    ]

pub HasMfi2_only : (cells : List (Option ℕ)) (place a b : ℕ) → HasMfi2 cells place a → HasMfi2 cells place b → a ≡ b
HasMfi2_only cells place a b p q =
    let upper = Some-injective p.0 q.0 (sym p.2 ∙ q.2) in
    let lower = Some-injective p.1 q.1 (sym p.3 ∙ q.3) in
    p.4 ∙ (let e : 16 * (p.0 / 16) + p.1 / 16 ≡ 16 * (q.0 / 16) + q.1 / 16 = cc in e) ∙ sym q.4

-- a cell has at most one number
pub HasNumber_only : (cells : List (Option ℕ)) (place a b : ℕ) → HasNumber cells place a → HasNumber cells place b →
    a ≡ b
HasNumber_only cells place a b p q =
    let from : p.0 ≡ q.0 = IsFirstStep_only cells p.0 q.0 place p.2 q.2 in
    let mfi2 : p.1 ≡ q.1 = HasMfi2_only cells q.0 p.1 q.1 (subst (λ k. HasMfi2 cells k p.1) from p.3) q.3 in
    p.4 ∙ (let e : (16 * p.1 + (place - p.0)) % 4096 ≡ (16 * q.1 + (place - q.0)) % 4096 = cc in e) ∙ sym q.4

-- ---- the next cell
HasMfi1_at : (cells : List (Option ℕ)) (j k a b : ℕ) → HasMfi1 cells j a → k ≡ j → a ≡ b → HasMfi1 cells k b
HasMfi1_at cells j k a b has same equal = subst (λ i. HasMfi1 cells i b) (sym same) (subst (HasMfi1 cells j) equal has)

-- from a cell with MFI1 0 to the next one, with MFI1 1
pub IsInStep_two : (cells : List (Option ℕ)) (place : ℕ) → HasMfi1 cells place 0 → HasMfi1 cells (place + 1) 1 →
    IsInStep cells place (place + 1)
IsInStep_two cells place zeroth next = record {
  later = omega arith;
  rises = λ k low high.
      elim (eq-or-lt_of_le high) [
        | inl last ↦ HasMfi1_at cells (place + 1) k 1 ((k - place) % 16) next last (omega arith)
        | inr before ↦ HasMfi1_at cells place k 0 ((k - place) % 16) zeroth (omega arith) (omega arith)
      ];
}

pub IsInStep_longer : (cells : List (Option ℕ)) (from place : ℕ) → IsInStep cells from place →
    HasMfi1 cells (place + 1) ((place + 1 - from) % 16) → IsInStep cells from (place + 1)
IsInStep_longer cells from place step next =
    let later = step.later in
    record {
      later = omega arith;
      rises = λ k low high.
          elim (eq-or-lt_of_le high) [
            | inl last ↦ HasMfi1_at cells (place + 1) k ((place + 1 - from) % 16) ((k - from) % 16) next last
                (omega arith)
            | inr before ↦ step.rises k low (omega arith)
          ];
    }

pub IsInStep_shorter : (cells : List (Option ℕ)) (from place : ℕ) → from < place → IsInStep cells from (place + 1) →
    IsInStep cells from place
IsInStep_shorter cells from place later step =
    record { later = later; rises = λ k low high. step.rises k low (omega arith) }

pub IsFirstStep_longer : (cells : List (Option ℕ)) (from place : ℕ) → IsFirstStep cells from place →
    HasMfi1 cells (place + 1) ((place + 1 - from) % 16) → IsFirstStep cells from (place + 1)
IsFirstStep_longer cells from place first next =
    let later = first.in_step.later in
    record {
      in_step = IsInStep_longer cells from place first.in_step next;
      first = λ k before step. first.first k before (IsInStep_shorter cells k place (omega arith) step);
    }

rises_by_one : (from place mfi1 next : ℕ) → from ≤ place → (place - from) % 16 ≡ mfi1 → (place + 1 - from) % 16 ≡ next →
    next ≡ (mfi1 + 1) % 16
rises_by_one from place mfi1 next h before at = omega arith

-- the MFI1 of a cell in step is one more than that of the cell before it
pub IsInStep-next : (cells : List (Option ℕ)) (from place mfi1 next : ℕ) → IsInStep cells from (place + 1) →
    HasMfi1 cells place mfi1 → HasMfi1 cells (place + 1) next → next ≡ (mfi1 + 1) % 16
IsInStep-next cells from place mfi1 next step here there =
    let later = step.later in
    let before : (place - from) % 16 ≡ mfi1 =
    HasMfi1_only cells place ((place - from) % 16) mfi1 (step.rises place (omega arith) (omega arith)) here in
    let at : (place + 1 - from) % 16 ≡ next =
    HasMfi1_only cells (place + 1) ((place + 1 - from) % 16) next
    (step.rises (place + 1) (omega arith) (omega arith)) there in
    rises_by_one from place mfi1 next (omega arith) before at

lower_half : (mfi2 frames number : ℕ) → number ≡ (16 * mfi2 + frames) % 4096 → frames % 16 ≡ number % 16
lower_half mfi2 frames number e = omega arith

-- the lower half of a number is the MFI1
pub HasNumber-mfi1 : (cells : List (Option ℕ)) (place number : ℕ) → HasNumber cells place number →
    HasMfi1 cells place (number % 16)
HasNumber-mfi1 cells place number has =
    let step = has.2.in_step in
    let later = step.later in
    subst (HasMfi1 cells place) (lower_half has.1 (place - has.0) number has.4)
    (step.rises place (omega arith) (omega arith))

first_number : (place upper lower : ℕ) → upper < 256 → lower < 256 →
    16 * (16 * (upper / 16) + lower / 16) + 1 ≡ (16 * (16 * (upper / 16) + lower / 16) + (place + 1 - place)) % 4096
first_number place upper lower p q = omega arith

-- a cell with MFI1 1 locks after one with MFI1 0 that is out of step
pub Locks_next : (cells : List (Option ℕ)) (place upper lower : ℕ) → upper < 256 → lower < 256 →
    IsOutOfStep cells place →
    slice_get cells place ≡ Some (Some upper) → upper % 16 ≡ 0 → slice_get cells (place + 1) ≡ Some (Some lower) →
    lower % 16 ≡ 1 →
    Locks cells (place + 1) × HasNumber cells (place + 1) (16 * (16 * (upper / 16) + lower / 16) + 1)
Locks_next cells place upper lower upper_small lower_small out here zeroth there first =
    let is_first : IsFirstStep cells place (place + 1) = record {
      in_step = IsInStep_two cells place (upper, here, zeroth) (lower, there, first);
      first = λ k before step. out k (IsInStep_shorter cells k place before step);
    } in
    let mfi2 = 16 * (upper / 16) + lower / 16 in (
      (place, is_first, refl),
      (
        place,
        mfi2,
        is_first,
        (upper, lower, here, there, refl),
        first_number place upper lower upper_small lower_small,
      ),
    )

next_number : (from place mfi2 number : ℕ) → from ≤ place → number ≡ (16 * mfi2 + (place - from)) % 4096 →
    ((number + 1) % 4096 ≡ (16 * mfi2 + (place + 1 - from)) % 4096) ×
    ((number + 1) % 4096 % 16 ≡ (place + 1 - from) % 16)
next_number from place mfi2 number h e = (omega arith, omega arith)

-- a cell with the next MFI1 has the next number
pub IsAt_next : (cells : List (Option ℕ)) (place number : ℕ) → HasNumber cells place number →
    HasMfi1 cells (place + 1) ((number + 1) % 4096 % 16) →
    IsAt cells (place + 1) × HasNumber cells (place + 1) ((number + 1) % 4096)
IsAt_next cells place number has next =
    let from = has.0 in
    let later = has.2.in_step.later in
    let sums = next_number from place has.1 number (omega arith) has.4 in
    let first = IsFirstStep_longer cells from place has.2 (subst (HasMfi1 cells (place + 1)) sums.1 next) in
    ((from, first, omega arith), (from, has.1, first, has.3, sums.0))

-- a cell whose MFI1 is not the next one is out of step
pub IsOutOfStep_next : (cells : List (Option ℕ)) (place mfi1 next : ℕ) → HasMfi1 cells place mfi1 →
    HasMfi1 cells (place + 1) next → (next ≡ (mfi1 + 1) % 16 → ⊥) → IsOutOfStep cells (place + 1)
IsOutOfStep_next cells place mfi1 next here there other from step =
    other (IsInStep-next cells from place mfi1 next step here there)

-- nor is any cell in step after one that is out of step and has no MFI1 0
pub IsOutOfStep_goes_on : (cells : List (Option ℕ)) (place : ℕ) → IsOutOfStep cells place →
    (HasMfi1 cells place 0 → ⊥) → IsOutOfStep cells (place + 1)
IsOutOfStep_goes_on cells place out no_begin from step =
    let later = step.later in
    let within : from ≤ place = omega arith in
    elim (eq-or-lt_of_le within) [
      | inl same ↦ no_begin (HasMfi1_at cells place place ((place - from) % 16) 0
          (step.rises place within (omega arith)) refl (omega arith))
      | inr before ↦ out from (IsInStep_shorter cells from place before step)
    ]
