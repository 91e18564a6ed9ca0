-- They are counted by division.
use Rattle.member_au4.proofs.NumberedVcCountsLaws.{begins-when, ends-when}
use Rattle.member_au4.proofs.au4_pointer.pointer_laws.count_law.Goals as goal

pub returns-clause-begins : goal.returns-clause-begins
returns-clause-begins c = begins-when

pub returns-clause-ends : goal.returns-clause-ends
returns-clause-ends c = ends-when
