-- By the law of what is read back.
use Rattle.text_captures.proofs.WrittenCaptureFrameLaws.{read-back}
use Rattle.text_captures.proofs.capture_file.written_law.Goals as goal

pub returns : goal.returns
returns c = read-back
