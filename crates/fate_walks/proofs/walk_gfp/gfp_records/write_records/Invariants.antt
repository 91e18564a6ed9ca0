-- The records of the frames so far are written.
use Rattle.std.proofs.Common.{[], length, take}
use Rattle.law_model.specs.Common.{leg_of, Start}
use Rattle.law_walk.specs.Common.{session_rows, session_extents}
use Rattle.text_captures.specs.capture_file.CaptureSoFar.{HasGfp}
use Rattle.fate_walks.specs.walk_frames.ItemCursor.{frames_left}
use Rattle.fate_walks.specs.walk_gfp.CarriedInRows.{carried_among}
use Rattle.fate_walks.proofs.AcceptedAndCarriedFrameLaws.{Accepted}
use Rattle.fate_walks.proofs.walk_gfp.gfp_records.write_records.Given as goal

abbrev pub invariant-loop-frame : goal.invariant-loop-frame
invariant-loop-frame g l = Accepted (leg_of l.walk.script) l.walk.counts l.cursor l.accepted
    × ((start : Start) → HasGfp g.K.ByteSink.written g.K.ByteSink.faults l.fn.out start [] →
    HasGfp g.K.ByteSink.written g.K.ByteSink.faults l.out start
    (carried_among (session_rows (leg_of l.walk.script) l.walk.counts.rows)
    (take l.accepted (session_extents (leg_of l.walk.script)))))

abbrev pub decreases-loop-frame : goal.decreases-loop-frame
decreases-loop-frame g l = length (frames_left (leg_of l.walk.script) l.cursor)
