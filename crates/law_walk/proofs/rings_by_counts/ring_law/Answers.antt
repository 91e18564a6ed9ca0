-- The rings of a line.
use Rattle.law_walk.proofs.WalkPlanAndPoppedCellLaws.{line-fits}
use Rattle.law_walk.proofs.WalkRingAndWaitingTakeLaws.{lines-size, taken-cells, send-size, send-made, send-next}
use Rattle.law_walk.proofs.WalkRingAndWaitingTakeLaws.{taken-next, receive-size}
use Rattle.law_walk.proofs.WalkRingAndWaitingTakeLaws.{receive-gives, receive-pops, popped-next}
use Rattle.law_walk.proofs.rings_by_counts.ring_law.Goals as goal

pub returns-clause-lines : goal.returns-clause-lines
returns-clause-lines c = lines-size

pub returns-clause-bounds : goal.returns-clause-bounds
returns-clause-bounds c leg s line can walked inside = line-fits leg s can walked line inside

pub returns-clause-taken : goal.returns-clause-taken
returns-clause-taken c = taken-cells

pub returns-clause-sends : goal.returns-clause-sends
returns-clause-sends c = send-size

pub returns-clause-receives : goal.returns-clause-receives
returns-clause-receives c = receive-size

pub returns-clause-made : goal.returns-clause-made
returns-clause-made c = send-made

pub returns-clause-next : goal.returns-clause-next
returns-clause-next c = send-next

pub returns-clause-takes : goal.returns-clause-takes
returns-clause-takes c = taken-next

pub returns-clause-gives : goal.returns-clause-gives
returns-clause-gives c = receive-gives

pub returns-clause-pops : goal.returns-clause-pops
returns-clause-pops c = receive-pops

pub returns-clause-popped : goal.returns-clause-popped
returns-clause-popped c = popped-next
