-- The return path.
use Rattle.law_walk.proofs.WalkRingAndWaitingTakeLaws.{all-longer, all-decided, packet-said, packet-is, cell-told}
use Rattle.law_walk.proofs.WalkRingAndWaitingTakeLaws.{cells-next, packets-next, used-next, ring-says, ring-goes}
use Rattle.law_walk.proofs.WalkRingAndWaitingTakeLaws.{inbox-comes, inbox-taken}
use Rattle.law_walk.proofs.return_packets_come.return_law.Goals as goal

pub returns-clause-longer : goal.returns-clause-longer
returns-clause-longer c = all-longer

pub returns-clause-decided : goal.returns-clause-decided
returns-clause-decided c leg t can low = all-decided leg can t low

pub returns-clause-said : goal.returns-clause-said
returns-clause-said c = packet-said

pub returns-clause-told : goal.returns-clause-told
returns-clause-told c leg k can low = cell-told leg can k low

pub returns-clause-next : goal.returns-clause-next
returns-clause-next c leg k can low = cells-next leg can k low

pub returns-clause-ends : goal.returns-clause-ends
returns-clause-ends c = packets-next

pub returns-clause-steps : goal.returns-clause-steps
returns-clause-steps c = used-next

pub returns-clause-says : goal.returns-clause-says
returns-clause-says c = ring-says

pub returns-clause-goes : goal.returns-clause-goes
returns-clause-goes c = ring-goes

pub returns-clause-comes : goal.returns-clause-comes
returns-clause-comes c = inbox-comes

pub returns-clause-taken : goal.returns-clause-taken
returns-clause-taken c = inbox-taken

pub returns-clause-packet : goal.returns-clause-packet
returns-clause-packet c leg k can low = packet-is leg can k low
