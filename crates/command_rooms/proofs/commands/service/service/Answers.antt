-- A script is read, its walk is made and seen, what it was worth is found, and it is written or a write fails.
use Rattle.std.proofs.Common.{refl}
use Rattle.command_parts.proofs.TaskEndAndStatusLaws.{script-written}
use Rattle.command_rooms.proofs.HandedWalkAndTrueStartLaws.{hands-script}
use Rattle.command_rooms.proofs.commands.service.service.Goals as goal

pub returns-in-Err : goal.returns-in-Err
returns-in-Err g c = record { ran = tt; stopped = c.in-Err.ensures.stopped _; nothing = refl }

pub returns-in-Err-survey_walk : goal.returns-in-Err-survey_walk
returns-in-Err-survey_walk g c =
    record { ran = tt; stopped = c.in-Ok.ensures.script.read.quiet; nothing = refl }

pub returns : goal.returns
returns g c =
    script-written _ _ _ _ _ _ c.in-Ok.ensures.script (rw c.in-Ok.ensures.counts at
    c.write_service-written.ensures.ok) (rw c.in-Ok.ensures.counts at c.write_service-written.ensures.err)
    (hands-script _ _ c.in-Ok.watched.walk c.in-Ok.ensures.script refl c.in-Ok.ensures.counts)
