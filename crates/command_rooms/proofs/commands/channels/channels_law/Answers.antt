-- By what the text says.
use Rattle.command_rooms.proofs.HandedWalkAndTrueStartLaws.{plan-written}
use Rattle.command_rooms.proofs.commands.channels.channels_law.Goals as goal

pub returns : goal.returns
returns c = plan-written
