-- G.7042, the source over any list of calls: commands and decision steps as they come, each step with the return cell
-- that it takes.
use Rattle.std.specs.Prelude.{ℕ, zero, suc, ◌+◌, ◌-◌, ◌%◌, nat_le, List, [], ◌∷◌, ◌++◌, map, fold, Option, Some, None}
use Rattle.std.specs.Prelude.{slice_index_or, if◌then◌else◌}
use Rattle.law_model.specs.declared.lcas_states.Command.{Command}
use Rattle.law_model.specs.session.Scenario.{Scenario, orders_at}
use Rattle.law_model.specs.source.Table.{Told}
use Rattle.law_model.specs.source.Source.{Source, opening, asked, decide}

-- a command, accepted or refused; a decision step, and the return cell that it takes, if there is one: lost ones are
-- cells too
pub data Call : Type 0 where
  asks : Command → Call
  decides : Option (Option Told) → Call

-- the source after some calls: how many lines it has; how many return packets tell all statuses; how many return cells
-- its steps took; how many steps were made
pub record Course : Type 0 where
  pub lines : ℕ
  pub statuses : ℕ
  pub source : Source
  pub taken : ℕ
  pub steps : ℕ

abbrev pub begun : ℕ → ℕ → Course
begun lines statuses =
    record { lines = lines; statuses = statuses; source = opening lines; taken = 0; steps = 0 }

-- what a return cell says, if there is one, and how many cells that is
abbrev pub said_by : Option (Option Told) → Option Told
said_by None = None
said_by (Some cell) = cell

abbrev pub count_of : Option (Option Told) → ℕ
count_of None = 0
count_of (Some cell) = 1

-- the statuses of return cell k are those of its group: the groups come in turn
abbrev pub called : Course → Call → Course
called course (asks command) = record {
  lines = course.lines;
  statuses = course.statuses;
  source = asked course.lines course.source command;
  taken = course.taken;
  steps = course.steps;
}
called course (decides cell) = record {
  lines = course.lines;
  statuses = course.statuses;
  source = decide (course.taken % course.statuses) (said_by cell) course.source;
  taken = course.taken + count_of cell;
  steps = course.steps + 1;
}

abbrev pub course_of : ℕ → ℕ → List Call → Course
course_of lines statuses calls = fold called (begun lines statuses) calls

-- ---- the calls of a scenario
-- the return cell that step j is given: the first of these cells comes in the step whose number is the lag
abbrev pub given_at : Scenario → List (Option Told) → ℕ → Option (Option Told)
given_at scenario cells j = if nat_le scenario.lag j then Some (slice_index_or cells (j - scenario.lag) None) else None

-- those before step j: the commands that land before each step, in their order, and then the step
unfoldable pub calls_before : Scenario → List (Option Told) → ℕ → List Call
calls_before scenario cells zero = []
calls_before scenario cells (suc j) =
    calls_before scenario cells j ++ (map asks (orders_at scenario j) ++ decides (given_at scenario cells j) ∷ [])
