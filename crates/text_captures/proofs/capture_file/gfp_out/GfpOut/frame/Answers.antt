-- A record more.
use Rattle.std.proofs.Common.{◌+◌, length, subst, arith}
use Rattle.text_got.specs.TextSoFar.{HasText}
use Rattle.text_captures.specs.capture_file.GfpInCapture.{gfp_capture}
use Rattle.text_captures.proofs.WrittenCaptureFrameLaws.{gfp-more}
use Rattle.text_captures.proofs.capture_file.gfp_out.GfpOut.frame.Goals as goal

pub returns : goal.returns
returns g c start frames has =
    let frame = c.args.frame.now in
    subst (HasText g.K.ByteSink.written g.K.ByteSink.faults c.line.new.self start)
    (gfp-more frames c.args.row (8 + length frame) (4 + length frame) frame (omega arith) (omega arith))
    (c.line.ensures start _ (c.add_headers.ensures start _ (c.add_head.ensures start (gfp_capture frames) has)))
