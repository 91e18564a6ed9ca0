-- A sink follows what a source sends.
use Rattle.member_au4.proofs.PointerSourceAndSinkLaws.{all-whole, all-taken}
use Rattle.member_au4.proofs.au4_pointer.pointer_laws.pointer_law.Goals as goal

pub returns-clause-whole : goal.returns-clause-whole
returns-clause-whole c = all-whole

pub returns-clause-taken : goal.returns-clause-taken
returns-clause-taken c = all-taken
