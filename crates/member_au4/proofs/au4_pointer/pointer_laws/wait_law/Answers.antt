-- The frames since are counted.
use Rattle.member_au4.proofs.SourceSendSteps.{wait-behind, wait-none}
use Rattle.member_au4.proofs.au4_pointer.pointer_laws.wait_law.Goals as goal

pub returns-clause-behind : goal.returns-clause-behind
returns-clause-behind c = wait-behind

pub returns-clause-none : goal.returns-clause-none
returns-clause-none c = wait-none
