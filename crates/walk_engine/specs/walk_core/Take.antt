-- Why a Take pops nothing, and what it pops.
use Rattle.std.specs.Prelude.{◌≡◌, ℕ, ◌+◌, ◌<◌, ◌≤◌, nat_le, if◌then◌else◌, List, map, length, slice_get, Option, Some}
use Rattle.std.specs.Prelude.{None}
use Rattle.law_model.specs.Common.{Cell, Leg, first_open, Counts, is_back_full, pop_lines}
use Rattle.law_model.specs.declared.control_packet.Packet.{Packet}
use Rattle.law_model.specs.declared.walk_events.StallCause.{StallCause}
use Rattle.law_model.specs.declared.walk_events.StallCause.TheVariants.{Done, BackFull}
use Rattle.member_rows.specs.realign_rows.Gather.{Gather, GatherStands as Gathers, line_count}
use Rattle.terminal_sink.specs.sink_core.TakenAndGiven.{back_at}
use Rattle.terminal_sink.specs.sink_core.Core.{Core, SinkStands as HasTaken}
use Rattle.law_walk.specs.Common.{walk_plan, CanWalk, popped_cells, delay_on}
use Rattle.walk_engine.specs.walk_parts.Ringed.{Ringed}
use Rattle.walk_engine.specs.walk_core.WayParts.{line_counts, HasLines}

-- why no cell is popped, where none is: of a total of rows
abbrev pub take_cause : ℕ → Counts → Option StallCause
take_cause total s = if nat_le total s.rows then Some Done else (if is_back_full s then Some BackFull else None)

-- the cells that were popped of the lines were gathered, and a row is left
pub record CanPop (leg : Leg) (own : List Ringed) (gather : Gather) : Type 0 where
  pub can : CanWalk leg
  pub lines : HasLines leg own
  pub size : length own ≡ length leg.config.windows
  pub pops : (m : ℕ) (line : Ringed) → slice_get own m ≡ Some line → line.popped ≤ line.given
  pub carries : (m : ℕ) (line : Ringed) → slice_get own m ≡ Some line →
      line.carried ≤ leg.config.ticks + delay_on leg m + 1
  pub row : gather.rows < leg.config.ticks
  pub gathers : Gathers gather (popped_cells leg (map line_counts own))

-- lines were popped until each decides the next row, or up to the first that doesn't
pub record HasPopped (leg : Leg) (was now : List Ringed) (gather : Gather) (waiting : Option ℕ) : Type 0 where
  pub lines : HasLines leg now
  pub counts : map line_counts now ≡ (pop_lines gather.rows 0 (walk_plan leg).paths (map line_counts was)).lines
  pub waits : waiting ≡ (pop_lines gather.rows 0 (walk_plan leg).paths (map line_counts was)).waiting
  pub gathers : Gathers gather (popped_cells leg (map line_counts now))

-- each line decides the next row
pub record CanTake (cells : List (List Cell)) (core : Core) (gather : Gather) : Type 0 where
  pub gathers : Gathers gather cells
  pub taken : HasTaken core cells
  pub none : first_open cells core.taken ≡ None

-- it was taken, and made a return packet, or none
pub record HasRow (cells : List (List Cell)) (was now : Core) (gather : Gather) (back : Option Packet) : Type 0 where
  pub gathers : Gathers gather cells
  pub taken : HasTaken now cells
  pub one : now.taken ≡ was.taken + 1
  pub passed : gather.rows ≡ now.taken
  pub lines : line_count gather ≡ was.lines
  pub all : now.lines ≡ was.lines
  pub size : now.size ≡ was.size
  pub options : now.options ≡ was.options
  pub said : back ≡ back_at was.options cells was.taken
