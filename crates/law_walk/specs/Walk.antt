-- A walk of a leg: its counts, and the cells that they speak of.
use Rattle.std.specs.Prelude.{◌≡◌, ℕ, ◌<◌, ◌≤◌, List, map, take, length, slice_index_or, All, Option}
use Rattle.std.specs.List.{range_with_len}
use Rattle.std.specs.List.Sorted.{IsNonDecreasing}
use Rattle.law_model.specs.Common.{Container, Cell, Leg, AreWindows, Scenario, scenario_by, carried_by, Told}
use Rattle.law_model.specs.Common.{cells_before, session_cells, containers_of, LinePath, Plan, LineCounts, Counts}
use Rattle.law_model.specs.Common.{frame_dues, command_dues, dues_of, all_cells, path_of, plan_of, FitsRing, FitsLag}
use Rattle.law_progress.specs.Progress.{IsReached}
use Rattle.law_model.specs.Common.{most_lines, largest_ring}

-- ---- the session of a leg
-- its return cells, and the first of them
abbrev pub session_of : Leg → List (Option Told)
session_of leg = session_cells (scenario_by leg)

abbrev pub told_first : Leg → ℕ → List (Option Told)
told_first leg n = cells_before (scenario_by leg) n

-- ---- the walk in numbers
-- the containers of a line of a session
abbrev pub sent_on : Scenario → ℕ → List Container
sent_on scenario line = containers_of scenario (session_cells scenario) line scenario.ticks

-- those of each line
abbrev pub sent_of : Scenario → List (List Container)
sent_of scenario = map (sent_on scenario) (range_with_len 0 (length scenario.windows))

-- the plan of a leg's walk
abbrev pub walk_plan : Leg → Plan
walk_plan leg = plan_of leg.config leg.items (sent_of (scenario_by leg))

-- ---- what is asked of a leg: one line at least and at most 128, each with a delay, and with windows in order and
-- apart; due ticks
-- that never fall; and rings that fit. A sound leg has all that
pub record CanWalk (leg : Leg) : Type 0 where
  pub some : 0 < length leg.config.windows
  pub few : length leg.config.windows ≤ most_lines
  pub delays : length leg.config.delays ≡ length leg.config.windows
  pub apart : All (AreWindows 0) leg.config.windows
  pub frames : IsNonDecreasing (frame_dues (dues_of leg.items))
  pub commands : IsNonDecreasing (command_dues (dues_of leg.items))
  pub some_room : 1 ≤ leg.config.ring
  pub room : leg.config.ring ≤ largest_ring
  pub ring : FitsRing leg.config
  pub lag : FitsLag leg.config

-- some list of events leads to these counts
abbrev pub IsWalked : Leg → Counts → Type 0
IsWalked leg s = IsReached (walk_plan leg) s

-- ---- the cells that were popped
abbrev pub counts_at : List LineCounts → ℕ → LineCounts
counts_at lines line = slice_index_or lines line (record { carried = 0; popped = 0 })

-- all cells that a line of a session gives after a delay
abbrev pub cells_on : Scenario → ℕ → ℕ → List Cell
cells_on scenario delay line = all_cells (carried_by scenario line) delay (sent_on scenario line)

-- those that the sink popped of it
abbrev pub popped_on : Leg → List LineCounts → ℕ → List Cell
popped_on leg lines line =
    take (counts_at lines line).popped (cells_on (scenario_by leg) (slice_index_or leg.config.delays line 0) line)

-- and of each line
abbrev pub popped_cells : Leg → List LineCounts → List (List Cell)
popped_cells leg lines = map (popped_on leg lines) (range_with_len 0 (length leg.config.windows))

-- ---- a line in numbers: how many cells its carries give, and how many numbers its first cells decide
abbrev pub path_on : Leg → ℕ → LinePath
path_on leg line =
    path_of (carried_by (scenario_by leg) line) (slice_index_or leg.config.delays line 0)
    (sent_on (scenario_by leg) line)
