-- By how it stands after each saying.
use Rattle.std.proofs.Common.{refl}
use Rattle.law_live.proofs.WellSaidLegAndWindowLaws.{said-failures, said-lines, said-passed, said-sound, said-valid}
use Rattle.law_live.proofs.WellSaidLegAndWindowLaws.{ends-last}
use Rattle.law_live.proofs.what_is_said.said_law.Goals as goal

pub returns-clause-sound : goal.returns-clause-sound
returns-clause-sound c = said-sound

pub returns-clause-valid : goal.returns-clause-valid
returns-clause-valid c = said-valid

pub returns-clause-leg : goal.returns-clause-leg
returns-clause-leg c = λ config said. refl

pub returns-clause-passed : goal.returns-clause-passed
returns-clause-passed c = said-passed

pub returns-clause-lines : goal.returns-clause-lines
returns-clause-lines c = said-lines

pub returns-clause-failures : goal.returns-clause-failures
returns-clause-failures c = said-failures

pub returns-clause-last : goal.returns-clause-last
returns-clause-last c = ends-last
