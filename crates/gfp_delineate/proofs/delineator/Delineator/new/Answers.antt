-- An area has four octets more than its frame, those of the type header.
use Rattle.gfp_delineate.specs.Receiver.{area_limit}
use Rattle.gfp_delineate.proofs.delineator.Delineator.new.Goals as goal

pub returns : goal.returns
unfolding area_limit
returns c = c.in_ok-new.ensures
