-- The last decision step.
use Rattle.law_walk.proofs.WalkRingAndWaitingTakeLaws.{last-next, used-now, packet-now, said-ends, table-now}
use Rattle.law_walk.proofs.walks_as_session.step_law.Goals as goal

pub returns-clause-last : goal.returns-clause-last
returns-clause-last c = last-next

pub returns-clause-needs : goal.returns-clause-needs
returns-clause-needs c = used-now

pub returns-clause-number : goal.returns-clause-number
returns-clause-number c = packet-now

pub returns-clause-told : goal.returns-clause-told
returns-clause-told c = said-ends

pub returns-clause-table : goal.returns-clause-table
returns-clause-table c = table-now
