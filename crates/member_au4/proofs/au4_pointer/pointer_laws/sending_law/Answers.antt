-- One action more.
use Rattle.member_au4.proofs.SourceSendSteps.{sent-more}
use Rattle.member_au4.proofs.au4_pointer.pointer_laws.sending_law.Goals as goal

pub returns : goal.returns
returns c = sent-more
