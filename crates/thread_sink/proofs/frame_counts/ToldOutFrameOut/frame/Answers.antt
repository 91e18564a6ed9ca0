-- One frame more is counted and told.
use Rattle.thread_sink.proofs.frame_counts.ToldOutFrameOut.frame.Goals as goal

pub returns : goal.returns
returns g c start frames stands = (c.frame-2.ensures start frames stands.0, c.frame.ensures start frames stands.1)
