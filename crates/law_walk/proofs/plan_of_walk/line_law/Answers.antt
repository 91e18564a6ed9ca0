-- A line of a walk in numbers.
use Rattle.law_walk.proofs.WalkPlanAndPoppedCellLaws.{line-path, line-first, line-open}
use Rattle.law_walk.proofs.plan_of_walk.line_law.Goals as goal

pub returns-clause-path : goal.returns-clause-path
returns-clause-path c leg line can inside = line-path leg can line inside

pub returns-clause-open : goal.returns-clause-open
returns-clause-open c = line-open

pub returns-clause-first : goal.returns-clause-first
returns-clause-first c = line-first
