-- The calls on the line of a worker.
use Rattle.std.specs.Prelude.{◌≡◌, List, [], ◌∷◌, ◌++◌, Option, Some, None}
use Rattle.law_model.specs.Common.{Container, Cell}
use Rattle.member_path.specs.declared.cell_numbers.signs_and_verdicts.CellSign.{CellSign}
use Rattle.member_path.specs.path_delay.Carry.{carry_cells}
use Rattle.member_path.specs.path_delay.CallsOnDelayedLine.{Line, Calls, opened, and_push, and_flush, path_cells, DelayStands, Counts}

-- the calls on a line that was given these containers
abbrev pub calls_on : Line → List Container → Calls
calls_on line containers = record {
  delay = line.delay;
  windows = line.windows;
  total = line.total;
  containers = containers;
  flushes = line.flushed;
}

-- nothing was pushed into the line
abbrev pub IsOpened : Line → Type 0
IsOpened line = DelayStands line (opened line.delay line.windows line.total)

-- the cells that a carry gives, where a cell lies in the hand
abbrev pub hand_cells : Option CellSign → Cell → List Cell
hand_cells None cell = []
hand_cells (Some sign) cell = cell ∷ []

-- a container was pushed into a line, and what came out lies in the hand
pub record IsPushed (old new : Line) (container : Container) (carry : Option CellSign) (hand : Cell) : Type 0 where
  pub place : Container
  pub given : hand_cells carry hand ≡ carry_cells carry place
  pub stands : (calls : Calls) → DelayStands old calls → DelayStands new (and_push calls container)
  pub cells : (calls : Calls) → DelayStands old calls →
      path_cells (and_push calls container) ≡ path_cells calls ++ carry_cells carry place
  pub counts : Counts old new 1 0

-- a line was flushed, and what came out lies in the hand
pub record IsFlushed (old new : Line) (carry : Option CellSign) (hand : Cell) : Type 0 where
  pub place : Container
  pub given : hand_cells carry hand ≡ carry_cells carry place
  pub stands : (calls : Calls) → DelayStands old calls → DelayStands new (and_flush calls)
  pub cells : (calls : Calls) → DelayStands old calls →
      path_cells (and_flush calls) ≡ path_cells calls ++ carry_cells carry place
  pub counts : Counts old new 0 1
