-- What the popped cells decide.
use Rattle.law_walk.proofs.WalkRingAndWaitingTakeLaws.{first-open, none-open, take-waits}
use Rattle.law_walk.proofs.rings_by_counts.take_law.Goals as goal

pub returns-clause-waiting : goal.returns-clause-waiting
returns-clause-waiting c = take-waits

pub returns-clause-open : goal.returns-clause-open
returns-clause-open c leg lines m t can size inside low before = first-open leg lines m t size inside low before

pub returns-clause-all : goal.returns-clause-all
returns-clause-all c leg lines t can size low before = none-open leg lines t size low before
