-- The plan of a leg's walk.
use Rattle.law_walk.proofs.WalkPlanAndPoppedCellLaws.{has-lines, has-plan, has-paths, sound-walks}
use Rattle.law_walk.proofs.plan_of_walk.plan_law.Goals as goal

pub returns-clause-lines : goal.returns-clause-lines
returns-clause-lines c = has-lines

pub returns-clause-plan : goal.returns-clause-plan
returns-clause-plan c = has-plan

pub returns-clause-sound : goal.returns-clause-sound
returns-clause-sound c = sound-walks

pub returns-clause-paths : goal.returns-clause-paths
returns-clause-paths c = has-paths
