-- G.707, multiframe alignment of virtual concatenation, over the H4 octets of the cells of a line: an entry is the H4
-- octet of a good cell, or none. The lower half of H4 is MFI1, which counts the frames modulo 16. The lock on two
-- octets, lost at one bad cell, is this project's own.
use Rattle.std.specs.Prelude.{◌≡◌, ℕ, ◌+◌, ◌-◌, ◌*◌, ◌/◌, ◌%◌, ◌<◌, ◌≤◌, List, Option, Some, slice_get}

-- a good cell with this MFI1 stands at a place
abbrev pub HasMfi1 : List (Option ℕ) → ℕ → ℕ → Type 0
HasMfi1 cells place mfi1 = (octet : ℕ) × (slice_get cells place ≡ Some (Some octet)) × (octet % 16 ≡ mfi1)

-- a cell is in step from an earlier one: that has MFI1 0, and from there on MFI1 rises by one modulo 16 at each cell
pub record IsInStep (cells : List (Option ℕ)) (from place : ℕ) : Type 0 where
  pub later : from < place
  pub rises : (k : ℕ) → from ≤ k → k ≤ place → HasMfi1 cells k ((k - from) % 16)

-- the first cell from which a cell is in step
pub record IsFirstStep (cells : List (Option ℕ)) (from place : ℕ) : Type 0 where
  pub in_step : IsInStep cells from place
  pub first : (k : ℕ) → k < from → IsInStep cells k place → ⊥

-- a cell is in step from none
abbrev pub IsOutOfStep : List (Option ℕ) → ℕ → Type 0
IsOutOfStep cells place = (from : ℕ) → IsInStep cells from place → ⊥

-- MFI2 at a cell and the next one: the multiframe's number, its upper half first
abbrev pub HasMfi2 : List (Option ℕ) → ℕ → ℕ → Type 0
HasMfi2 cells place mfi2 = (upper : ℕ) × (lower : ℕ) × (slice_get cells place ≡ Some (Some upper))
    × (slice_get cells (place + 1) ≡ Some (Some lower)) × (mfi2 ≡ 16 * (upper / 16) + lower / 16)

-- a cell locks: it is in step, and from no cell before the last one
abbrev pub Locks : List (Option ℕ) → ℕ → Type 0
Locks cells place = (from : ℕ) × IsFirstStep cells from place × (from + 1 ≡ place)

-- a cell comes while the line is locked: it is in step from a cell before the last one
abbrev pub IsAt : List (Option ℕ) → ℕ → Type 0
IsAt cells place = (from : ℕ) × IsFirstStep cells from place × (from + 1 < place)

-- the frame number of a cell in step, modulo 4096: MFI2 was read where the line locked, and each cell since is one
-- frame
abbrev pub HasNumber : List (Option ℕ) → ℕ → ℕ → Type 0
HasNumber cells place number = (from : ℕ) × (mfi2 : ℕ) × IsFirstStep cells from place × HasMfi2 cells from mfi2
    × (number ≡ (16 * mfi2 + (place - from)) % 4096)
