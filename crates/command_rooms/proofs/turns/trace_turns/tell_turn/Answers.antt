-- A write of the frames' lines has failed, one on the notes, or neither.
use Rattle.std.proofs.Common.{sym}
use Rattle.command_rooms.proofs.WalkTraceAndEventCountLaws.{told-out, told-notes}
use Rattle.command_rooms.proofs.turns.trace_turns.tell_turn.Goals as goal

pub returns-then-failed : goal.returns-then-failed
returns-then-failed g c start first has lines =
    told-out _ _ _ g.E.ByteSink.faults start first c.args.got.now c.args.notes.now c.args.walk.now c.args.ticks
    (sym c.if-failed.ensures) c.requires.least has lines

pub returns-in-Ok : goal.returns-in-Ok
returns-in-Ok g c start first has lines =
    record { whole = sym c.if-failed.ensures; gives = has; lines = c.in-Ok.ensures.ok first lines }

pub returns-in-Err : goal.returns-in-Err
returns-in-Err g c start first has lines =
    told-notes _ _ g.E.ByteSink.written g.E.ByteSink.faults start first c.args.got.now _ c.args.walk.now
    (sym c.if-failed.ensures) has (c.in-Err.ensures.err first lines)
