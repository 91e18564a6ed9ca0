-- What is confirmed stays so.
use Rattle.law_loss.proofs.SegmentHuntAndRunLaws.{confirmed-stays}
use Rattle.law_loss.proofs.confirmed_law.Goals as goal

pub returns : goal.returns
returns c = confirmed-stays
