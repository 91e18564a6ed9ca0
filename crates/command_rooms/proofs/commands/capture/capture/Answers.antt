-- A script is read, its walk is made, and its capture is written or a write fails.
use Rattle.std.proofs.Common.{refl}
use Rattle.command_parts.proofs.TaskEndAndStatusLaws.{script-written}
use Rattle.command_rooms.proofs.HandedWalkAndTrueStartLaws.{hands-script}
use Rattle.command_rooms.proofs.commands.capture.capture.Goals as goal

pub returns-in-Err : goal.returns-in-Err
returns-in-Err g c = record { ran = tt; stopped = c.in-Err.ensures.stopped _; nothing = refl }

pub write_capture-written-requires-clause-valid : goal.write_capture-written-requires-clause-valid
write_capture-written-requires-clause-valid g c = c.in-Ok.ensures.begun.valid

pub write_capture-written-requires-clause-begun : goal.write_capture-written-requires-clause-begun
write_capture-written-requires-clause-begun g c = c.in-Ok.ensures.begun.counts

pub returns : goal.returns
returns g c =
    script-written _ _ _ _ _ _ c.in-Ok.ensures.script c.write_capture-written.ensures.ok
    c.write_capture-written.ensures.err (hands-script _ _ c.write_capture-written.new.walk
    c.in-Ok.ensures.script c.write_capture-written.ensures.script c.write_capture-written.ensures.counts)
