-- A walk is never stuck.
use Rattle.law_progress.proofs.RoundProgressAndDrainLaws.{inbox-fits, reached-progress}
use Rattle.law_walk.specs.Common.{walk_plan}
use Rattle.law_walk.proofs.WalkPlanAndPoppedCellLaws.{has-plan}
use Rattle.law_walk.proofs.AcceptedFrameAndDrainedWalkLaws.{drain-ends, counts-within, drained-ticks, drained-landed}
use Rattle.law_walk.proofs.AcceptedFrameAndDrainedWalkLaws.{drained-accepted, drained-report}
use Rattle.law_walk.proofs.report_of_walk.drain_law.Goals as goal

pub returns-clause-moves : goal.returns-clause-moves
returns-clause-moves c leg s can walked open_ =
    reached-progress (walk_plan leg) s (has-plan leg can) walked open_

pub returns-clause-inbox : goal.returns-clause-inbox
returns-clause-inbox c leg s can walked = inbox-fits (walk_plan leg) s (has-plan leg can) walked

pub returns-clause-drained : goal.returns-clause-drained
returns-clause-drained c = drain-ends

pub returns-clause-ticks : goal.returns-clause-ticks
returns-clause-ticks c = drained-ticks

pub returns-clause-landed : goal.returns-clause-landed
returns-clause-landed c = drained-landed

pub returns-clause-accepted : goal.returns-clause-accepted
returns-clause-accepted c = drained-accepted

pub returns-clause-within : goal.returns-clause-within
returns-clause-within c = counts-within

pub returns-clause-report : goal.returns-clause-report
returns-clause-report c = drained-report
