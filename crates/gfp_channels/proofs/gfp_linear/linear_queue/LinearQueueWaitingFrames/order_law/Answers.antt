-- The channels take turns.
use Rattle.gfp_channels.proofs.LinearStreamPlaceLaws.{in_turns_laws}
use Rattle.gfp_channels.proofs.gfp_linear.linear_queue.LinearQueueWaitingFrames.order_law.Goals as goal

pub returns : goal.returns
returns c = in_turns_laws
