-- What is kept of all lines of a group.
use Rattle.std.specs.Prelude.{◌≡◌, ℕ, zero, suc, ◌<◌, nat_lt, if◌then◌else◌, List, [], ◌∷◌, ◌++◌, length, slice_get}
use Rattle.std.specs.Prelude.{Option, Some, None}
use Rattle.law_model.specs.Common.{Container, Cell, governing}
use Rattle.law_model.specs.declared.control_packet.Packet.{Packet}
use Rattle.member_path.specs.cell_numbers.Numbers.{IsOpen, is_open}
use Rattle.member_rows.specs.declared.realign_rows.RowAnswer.{RowAnswer}
use Rattle.member_rows.specs.declared.realign_rows.RowAnswer.TheVariants.{Row, Waiting}
use Rattle.member_rows.specs.realign_rows.Line.{Line, LineStands}

-- of each line what is kept of it, the place of its container, and the packet read last; and how many rows were passed
pub record Gather : Type 0 where
  pub lines : List Line
  pub places : List Container
  pub packets : List (Option Packet)
  pub rows : ℕ

-- these cells of each line came
pub record GatherStands (gather : Gather) (cells : List (List Cell)) : Type 0 where
  pub size : length gather.lines ≡ length cells
  pub each : (m : ℕ) (line : Line) (place : Container) (own : List Cell) → slice_get gather.lines m ≡ Some line →
      slice_get gather.places m ≡ Some place → slice_get cells m ≡ Some own → LineStands line place own gather.rows
  pub packets : gather.packets ≡ governing cells gather.rows

abbrev pub line_count : Gather → ℕ
line_count gather = length gather.lines

-- the next row is not decided on a line
abbrev pub IsOpenAt : Gather → ℕ → Type 0
IsOpenAt gather m = (line : Line) → slice_get gather.lines m ≡ Some line → IsOpen line.numbers

-- how many lines before the first one on which the next row is not decided
abbrev pub decided_lines : List Line → ℕ
decided_lines [] = 0
decided_lines (line ∷ lines) = if is_open line.numbers then 0 else suc (decided_lines lines)

-- the first line on which it is not decided, none where it is decided on each
abbrev pub open_line : Gather → Option ℕ
open_line gather = if nat_lt (decided_lines gather.lines) (line_count gather) then Some
    (decided_lines gather.lines) else None

-- it is decided on each line
abbrev pub AreDecided : Gather → Type 0
AreDecided gather = decided_lines gather.lines ≡ length gather.lines

-- the line that an answer names
abbrev pub waiting_of : RowAnswer → Option ℕ
waiting_of Row = None
waiting_of (Waiting line) = Some line

-- what an answer lets a caller do
abbrev pub Allows : Gather → RowAnswer → Type 0
Allows gather Row = AreDecided gather
Allows gather (Waiting line) = (line < line_count gather) × IsOpenAt gather line

-- one cell more of a line
abbrev pub with_cell : List (List Cell) → ℕ → Cell → List (List Cell)
with_cell [] m cell = []
with_cell (own ∷ cells) zero cell = (own ++ cell ∷ []) ∷ cells
with_cell (own ∷ cells) (suc m) cell = own ∷ with_cell cells m cell
