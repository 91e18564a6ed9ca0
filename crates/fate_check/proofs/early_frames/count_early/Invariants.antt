-- The frames so far are counted.
use Rattle.std.proofs.Common.{length}
use Rattle.law_model.specs.session.Leg.{leg_of}
use Rattle.fate_walks.specs.walk_frames.ItemCursor.{frames_left}
use Rattle.fate_check.proofs.CheckTextAndEarlyFrameLaws.{EarlyCounted}
use Rattle.fate_check.proofs.early_frames.count_early.Given as goal

abbrev pub invariant-loop-frame : goal.invariant-loop-frame
invariant-loop-frame l = EarlyCounted (leg_of l.walk.script) l.walk.counts l.row l.cursor l.early

abbrev pub decreases-loop-frame : goal.decreases-loop-frame
decreases-loop-frame l = length (frames_left (leg_of l.walk.script) l.cursor)
