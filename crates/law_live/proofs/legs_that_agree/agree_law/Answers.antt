-- By each saying alone.
use Rattle.law_live.specs.Common.{live_of}
use Rattle.law_live.proofs.AgreeingLegConversationLaws.{agrees-begin, agrees-before, agrees-own}
use Rattle.law_live.proofs.WellSaidLegAndWindowLaws.{closed-below}
use Rattle.law_live.proofs.legs_that_agree.agree_law.Goals as goal

pub returns-clause-own : goal.returns-clause-own
returns-clause-own c = λ config said. agrees-own config (live_of config said)

pub returns-clause-less : goal.returns-clause-less
returns-clause-less c = agrees-before

pub returns-clause-begins : goal.returns-clause-begins
returns-clause-begins c = agrees-begin

pub returns-clause-open : goal.returns-clause-open
returns-clause-open c = λ passed more course up. closed-below passed more course.windows course.cut up
