-- The oldest frame comes next.
use Rattle.gfp_fill.proofs.SenderAndFillerStepLaws.{oldest_first_laws}
use Rattle.gfp_fill.proofs.frame_queue.FrameQueueWaitingFrames.order_law.Goals as goal

pub returns : goal.returns
returns c = oldest_first_laws
