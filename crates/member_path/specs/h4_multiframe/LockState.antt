-- What the lock of a line knows after a list of cells. The lock, on two octets, is this project's own.
use Rattle.std.specs.Prelude.{◌≡◌, ℕ, ◌+◌, ◌%◌, List, length, Option, Some, slice_get}
use Rattle.law_model.specs.Common.{HasMfi1, IsOutOfStep, HasNumber}
use Rattle.member_path.specs.declared.h4_multiframe.State.{State}
use Rattle.member_path.specs.declared.h4_multiframe.State.TheVariants.{Unlocked, Begun, Locked}

-- the place of the last cell
abbrev pub IsLast : List (Option ℕ) → ℕ → Type 0
IsLast cells place = place + 1 ≡ length cells

-- unlocked: the last cell, if there is one, is out of step, and no cell can be in step from it; begun: it is out of
-- step, and
-- a good one with MFI1 0; locked: it is in step, and has this number
abbrev pub LockStands : State → List (Option ℕ) → Type 0
LockStands Unlocked cells = (place : ℕ) → IsLast cells place → IsOutOfStep cells place × (HasMfi1 cells place 0 → ⊥)
LockStands (Begun octet) cells = (place : ℕ) × IsLast cells place × IsOutOfStep cells place ×
    (slice_get cells place ≡ Some (Some octet)) × (octet % 16 ≡ 0)
LockStands (Locked number) cells = (place : ℕ) × IsLast cells place × HasNumber cells place number
