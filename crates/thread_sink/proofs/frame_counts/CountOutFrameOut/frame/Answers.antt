-- One frame more is counted.
use Rattle.thread_sink.proofs.SinkStepAndFrameLaws.{count-more}
use Rattle.thread_sink.proofs.frame_counts.CountOutFrameOut.frame.Goals as goal

pub returns : goal.returns
returns c start frames stands =
    count-more frames c.args._frame.now c.args.self.now.count _ stands c.saturating_add-self.ensures
