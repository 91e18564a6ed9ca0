-- A script is read, its walk is made, and its report is written or a write fails.
use Rattle.std.proofs.Common.{refl}
use Rattle.command_parts.proofs.TaskEndAndStatusLaws.{script-written}
use Rattle.command_rooms.proofs.HandedWalkAndTrueStartLaws.{hands-script}
use Rattle.command_rooms.proofs.commands.walk.walk.Goals as goal

pub returns-in-Err : goal.returns-in-Err
returns-in-Err g c = record { ran = tt; stopped = c.in-Err.ensures.stopped _; nothing = refl }

pub write_walk-written-requires-clause-valid : goal.write_walk-written-requires-clause-valid
write_walk-written-requires-clause-valid g c = c.in-Ok.ensures.begun.valid

pub write_walk-written-requires-clause-begun : goal.write_walk-written-requires-clause-begun
write_walk-written-requires-clause-begun g c = c.in-Ok.ensures.begun.counts

pub returns : goal.returns
returns g c =
    script-written _ _ _ _ _ _ c.in-Ok.ensures.script c.write_walk-written.ensures.ok
    c.write_walk-written.ensures.err (hands-script _ c.in-Ok.begun.walk.script c.write_walk-written.new.walk
    c.in-Ok.ensures.script c.write_walk-written.ensures.script c.write_walk-written.ensures.counts)
