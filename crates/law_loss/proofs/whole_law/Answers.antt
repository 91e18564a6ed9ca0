-- All rows are whole.
use Rattle.law_loss.proofs.GivenAndLostFrameLaws.{deliver-whole}
use Rattle.law_loss.proofs.whole_law.Goals as goal

pub returns : goal.returns
returns c = deliver-whole
