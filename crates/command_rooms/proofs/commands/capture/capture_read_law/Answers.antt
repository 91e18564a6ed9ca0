-- By the law of what is read back.
use Rattle.command_rooms.proofs.WalkCaptureAndFrameSumLaws.{capture-read}
use Rattle.command_rooms.proofs.commands.capture.capture_read_law.Goals as goal

pub returns : goal.returns
returns c = capture-read
