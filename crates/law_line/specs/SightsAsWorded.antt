-- What is computed of each cell of a line is what is worded of it by the cells in step, and nothing else is.
use Rattle.std.specs.Prelude.{◌≡◌, ℕ, ◌+◌, ◌*◌, ◌<◌, ◌↔◌, List, length, Option, Some, slice_get}
use Rattle.law_model.specs.Common.{IsOutOfStep, HasMfi2, Locks, IsAt, unknown, locks, at, sights}

-- a cell comes while the line is locked
abbrev pub AreAtSights : Type 0
AreAtSights = (signs : List (Option ℕ)) (place : ℕ) → (slice_get (sights signs) place ≡ Some at) ↔ IsAt signs place

-- a cell locks the line, with the number that MFI2 says at the cell before it and at this one
abbrev pub LocksAs : List (Option ℕ) → ℕ → ℕ → Type 0
LocksAs signs place number =
    Locks signs place × (before : ℕ) × (mfi2 : ℕ) × (before + 1 ≡ place) × HasMfi2 signs before mfi2 ×
    (number ≡ 16 * mfi2 + 1)

abbrev pub AreLockingSights : Type 0
AreLockingSights = (signs : List (Option ℕ)) (place number : ℕ) →
    (slice_get (sights signs) place ≡ Some (locks number)) ↔ LocksAs signs place number

-- a cell is out of step
abbrev pub AreUnknownSights : Type 0
AreUnknownSights = (signs : List (Option ℕ)) (place : ℕ) →
    (slice_get (sights signs) place ≡ Some unknown) ↔ ((place < length signs) × IsOutOfStep signs place)
