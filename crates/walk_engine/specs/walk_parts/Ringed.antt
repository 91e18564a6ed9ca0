-- A line with its receive ring.
use Rattle.std.specs.Prelude.{◌≡◌, ℕ, zero, suc, ◌+◌, ◌%◌, ◌<◌, ◌≤◌, Bool, false, ◌==◌, if◌then◌else◌, List, [], ◌∷◌}
use Rattle.std.specs.Prelude.{length, take, slice_get, slice_set, Option, Some, None, is_none, IsSome}
use Rattle.law_model.specs.Common.{Container, Cell, verdict, most_ticks, longest_delay}
use Rattle.member_path.specs.declared.cell_numbers.signs_and_verdicts.CellSign.{CellSign}
use Rattle.member_path.specs.cell_numbers.SignsAsCells.{cell_with}
use Rattle.member_path.specs.path_delay.CallsOnDelayedLine.{Line, Calls, carries_of, path_cells, DelayStands}
use Rattle.member_rows.specs.realign_rows.Gather.{Gather, GatherStands as Gathers}

-- the line itself; the places of its ring, of each the sign of its cell and its container; how many carries were made, and
-- how many cells
-- were given and popped
pub record Ringed : Type 0 where
  pub core : Line
  pub signs : List CellSign
  pub places : List Container
  pub carried : ℕ
  pub given : ℕ
  pub popped : ℕ

-- how many cells the ring has places for
abbrev pub ring_of : Ringed → ℕ
ring_of line = length line.signs

abbrev pub cell_in : Option CellSign → Option Container → List Cell
cell_in None place = []
cell_in (Some sign) None = []
cell_in (Some sign) (Some place) = cell_with sign place ∷ []

-- the cell of number y, where the ring holds it
abbrev pub cell_at : List CellSign → List Container → ℕ → List Cell
cell_at signs places y = cell_in (slice_get signs (y % length signs)) (slice_get places (y % length signs))

-- what a ring has after a carry: the sign of the cell that it gave, if any, is put at a place; and how many cells it gave
abbrev pub with_sign : Option CellSign → ℕ → List CellSign → List CellSign
with_sign None slot signs = signs
with_sign (Some sign) slot signs = slice_set signs slot sign

abbrev pub count_of : Option CellSign → ℕ
count_of None = 0
count_of (Some sign) = 1

-- these calls have brought a line where it is, and its ring holds the cells that weren't popped
pub record Has (line : Ringed) (calls : Calls) : Type 0 where
  pub core : DelayStands line.core calls
  pub carried : line.carried ≡ carries_of calls
  pub given : line.given ≡ length (path_cells calls)
  pub holds : (y : ℕ) (cell : Cell) → line.popped ≤ y → y < line.given → slice_get (path_cells calls) y ≡ Some cell →
      cell_at line.signs line.places y ≡ cell ∷ []

-- the cells that were popped
abbrev pub popped_cells : Ringed → Calls → List Cell
popped_cells line calls = take line.popped (path_cells calls)

-- cells were popped, and nothing else has changed but what lies in the places of the ring
pub record IsPopped (before after : Ringed) : Type 0 where
  pub core : after.core ≡ before.core
  pub signs : after.signs ≡ before.signs
  pub size : length after.places ≡ length before.places
  pub carried : after.carried ≡ before.carried
  pub given : after.given ≡ before.given

-- the cells that were popped of each line are those that were gathered; this one is of number m, and those before it
-- decide the next row
pub record IsNext (line : Ringed) (calls : Calls) (rows : Gather) (cells : List (List Cell)) (m : ℕ) : Type 0 where
  pub has : Has line calls
  pub gathers : Gathers rows cells
  pub own : slice_get cells m ≡ Some (popped_cells line calls)
  pub before : (i : ℕ) (other : List Cell) → i < m → slice_get cells i ≡ Some other → IsSome (verdict other rows.rows)

-- a number is there, and is this one
abbrev pub is_at : ℕ → Option ℕ → Bool
is_at m None = false
is_at m (Some n) = n == m

-- from a number of cells on, the first that is enough, or as many more as there are
unfoldable pub popped_until : ℕ → (ℕ → Bool) → ℕ → ℕ
popped_until zero is_open y = y
popped_until (suc k) is_open y = if is_open y then popped_until k is_open (suc y) else y

-- the first cells of a path don't decide row t
abbrev pub leaves_open : List Cell → ℕ → ℕ → Bool
leaves_open path t y = is_none (verdict (take y path) t)

-- what is true of the fields of a line: it has a ring, which holds no more than it has places for, and its counts are
-- in their ranges
pub record IsRinged (line : Ringed) : Type 0 where
  pub some : 0 < length line.signs
  pub beside : length line.places ≡ length line.signs
  pub pops : line.popped ≤ line.given
  pub room : line.given ≤ line.popped + length line.signs
  pub gives : line.given ≤ line.carried
  pub carries : line.carried ≡ line.core.pushed + line.core.flushed
  pub pushes : line.core.pushed ≤ line.core.total
  pub flushes : line.core.flushed ≤ line.core.delay + 1
  pub total : line.core.total ≤ most_ticks
  pub delay : line.core.delay ≤ longest_delay
