-- By what the text says.
use Rattle.command_rooms.proofs.HandedWalkAndTrueStartLaws.{au4-written}
use Rattle.command_rooms.proofs.commands.au4.au4_law.Goals as goal

pub returns : goal.returns
returns c = au4-written
