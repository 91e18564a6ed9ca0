-- Division finds the remainder, and takes what any other one would add to nothing.
use Rattle.check_remainder.proofs.LongDivisionRemainderLaws.{IsRemainder-remainder, only_remainder}
use Rattle.check_remainder.proofs.remainder_law.Goals as goal

pub returns-clause-exists : goal.returns-clause-exists
returns-clause-exists c = IsRemainder-remainder

pub returns-clause-only : goal.returns-clause-only
returns-clause-only c = only_remainder
