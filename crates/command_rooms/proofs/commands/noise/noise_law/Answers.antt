-- By what the text says.
use Rattle.command_rooms.proofs.HandedWalkAndTrueStartLaws.{noise-written}
use Rattle.command_rooms.proofs.commands.noise.noise_law.Goals as goal

pub returns : goal.returns
returns c = noise-written
