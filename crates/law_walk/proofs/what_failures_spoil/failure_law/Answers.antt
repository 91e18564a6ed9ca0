-- With failures.
use Rattle.std.proofs.Common.{slice_index_or, arith}
use Rattle.law_model.specs.Common.{segments, Extent}
use Rattle.law_loss.proofs.SegmentsOfAddedRowsLaws.{Stands-all}
use Rattle.law_loss.proofs.GivenAndLostFrameLaws.{way_of, lost_of}
use Rattle.law_loss.proofs.ClientFrameExtentLaws.{extents-between}
use Rattle.law_walk.specs.Common.{session_rows, session_pieces, session_extents}
use Rattle.law_walk.proofs.WalkPlanAndPoppedCellLaws.{sound-walks}
use Rattle.law_walk.proofs.AcceptedFrameAndDrainedWalkLaws.{counts-within, frames-kept, frames-known}
use Rattle.law_walk.proofs.what_failures_spoil.failure_law.Goals as goal

pub returns-clause-kept : goal.returns-clause-kept
returns-clause-kept c = frames-kept

pub returns-clause-accepted : goal.returns-clause-accepted
returns-clause-accepted c = frames-known

pub returns-clause-ways : goal.returns-clause-ways
returns-clause-ways c leg rows k d inside =
    let frame : Extent = slice_index_or (session_extents leg) k d in
    let long = (extents-between 0 (session_pieces leg) k d inside).size in (
      way_of (session_extents leg) frame (segments (session_rows leg rows)),
      lost_of (session_extents leg) frame (segments (session_rows leg rows)) long
          (Stands-all (session_rows leg rows)).order,
    )

pub returns-clause-walked : goal.returns-clause-walked
returns-clause-walked c leg s sound walked true_starts =
    let (low, high) = counts-within leg s (sound-walks leg sound) walked in frames-kept leg s.rows sound
    (omega arith) true_starts
