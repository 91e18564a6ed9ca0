-- A line that carries payload was last read as a member.
use Rattle.law_session.proofs.FailedLinePayloadLaws.{active-member}
use Rattle.law_session.proofs.feedback_of_changes.silent_law.Goals as goal

pub returns : goal.returns
returns c = active-member
