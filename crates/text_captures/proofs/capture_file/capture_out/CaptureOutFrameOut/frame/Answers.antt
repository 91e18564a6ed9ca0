-- A record more of the row.
use Rattle.std.proofs.Common.{subst}
use Rattle.text_got.specs.TextSoFar.{HasText}
use Rattle.text_captures.specs.capture_file.CaptureSoFar.{first_in, before_in}
use Rattle.text_captures.proofs.WrittenCaptureFrameLaws.{row-behind}
use Rattle.text_captures.proofs.capture_file.capture_out.CaptureOutFrameOut.frame.Goals as goal

pub returns : goal.returns
returns g c start frames has = (
  has.0,
  subst (HasText g.K.ByteSink.written g.K.ByteSink.faults c.line.new.self (first_in start))
      (row-behind (before_in start) c.args.self.now.row frames c.args.frame.now)
      (c.line.ensures (first_in start) _ (c.add_head.ensures (first_in start) _ has.1)),
)
