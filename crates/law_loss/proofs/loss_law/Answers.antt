-- What is delivered is what is carried and not lost.
use Rattle.law_loss.proofs.GivenAndLostFrameLaws.{deliver-kept}
use Rattle.law_loss.proofs.loss_law.Goals as goal

pub returns : goal.returns
returns c = deliver-kept
