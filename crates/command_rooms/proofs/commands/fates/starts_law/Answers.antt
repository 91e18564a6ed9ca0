-- By the last words of the text of fates.
use Rattle.command_rooms.proofs.HandedWalkAndTrueStartLaws.{walks-true, runs-true}
use Rattle.command_rooms.proofs.commands.fates.starts_law.Goals as goal

pub returns-clause-walk : goal.returns-clause-walk
returns-clause-walk c = walks-true

pub returns-clause-run : goal.returns-clause-run
returns-clause-run c = runs-true
