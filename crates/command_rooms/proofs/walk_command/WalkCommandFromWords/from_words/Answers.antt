-- One command after another: each `or` and each room says what it gives.
use Rattle.command_rooms.proofs.walk_command.WalkCommandFromWords.from_words.Goals as goal

pub returns : goal.returns
returns c = cc
