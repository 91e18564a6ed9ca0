-- By the law of the frames of rows.
use Rattle.command_rooms.proofs.WalkCaptureAndFrameSumLaws.{taken-delivered}
use Rattle.command_rooms.proofs.commands.capture.capture_law.Goals as goal

pub returns : goal.returns
returns c = taken-delivered
