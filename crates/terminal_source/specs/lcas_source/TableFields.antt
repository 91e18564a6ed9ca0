-- The fields of a source's table: the course that they hold, and what is true of them.
use Rattle.std.specs.Prelude.{ℕ, Bool, false, List, take, replicate, ◌≡◌, ◌-◌, ◌≤◌, []}
use Rattle.arrayvec.specs.ArrayVec.{ArrayVec}
use Rattle.law_model.specs.Common.{IsStatuses, Table, Course, bits_from, Source, change, most_lines}
use Rattle.law_model.specs.declared.lcas_states.Command.{Command}
use Rattle.law_session.proofs.SourceOrderAndPlanLaws.{Fits}

abbrev pub course_in : ℕ → ℕ → Table → List Bool → ArrayVec Command → ℕ → ℕ → Course
course_in lines statuses table planned pending taken steps = record {
  lines = lines;
  statuses = statuses;
  source = record { table = table; planned = take lines planned; waiting = pending.items };
  taken = taken;
  steps = steps;
}

-- no line is planned
unfoldable pub none_planned : List Bool
none_planned = replicate most_lines false

-- what is true of the fields: the counts are no greater than the number of steps, no line stands twice in the order,
-- and the bits
-- are those from the packet of the last step on
pub record IsTable (course : Course) (group : List Bool) : Type 0 where
  pub lines : course.lines ≤ most_lines
  pub statuses : IsStatuses course.statuses
  pub fits : Fits course.lines course.source
  pub count : course.source.table.count ≤ course.steps
  pub taken : course.taken ≤ course.steps
  pub bits : group ≡ bits_from (course.steps - 1)

-- what a change makes of a table and of the commands that wait
abbrev pub changed_by : List Command → Table → Source
changed_by waiting table = change (record { table = table; planned = []; waiting = waiting }) table
