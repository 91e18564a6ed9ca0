-- The frames so far are taken.
use Rattle.std.proofs.Common.{List, length}
use Rattle.law_model.specs.Common.{leg_of}
use Rattle.fate_engine.specs.Common.{Ended}
use Rattle.fate_walks.specs.walk_frames.ItemCursor.{frames_left}
use Rattle.fate_service.proofs.LandedFrameTallyLaws.{FramesTaken}
use Rattle.fate_service.proofs.landed_frames.land_frames.Given as goal

abbrev pub invariant-loop-frame : goal.invariant-loop-frame
invariant-loop-frame l =
    (done : List Ended) × FramesTaken (leg_of l.walk.script) l.walk.counts l.cursor l.landed done

abbrev pub decreases-loop-frame : goal.decreases-loop-frame
decreases-loop-frame l = length (frames_left (leg_of l.walk.script) l.cursor)
