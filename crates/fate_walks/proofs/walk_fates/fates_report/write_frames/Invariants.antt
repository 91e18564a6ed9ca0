-- The lines of the items so far are written, and they are counted.
use Rattle.std.proofs.Common.{ℕ, List, ◌++◌, length, flat_map}
use Rattle.law_model.specs.Common.{leg_of, Start}
use Rattle.text_got.specs.TextSoFar.{HasText}
use Rattle.fate_engine.specs.Common.{Ended, ended_text}
use Rattle.fate_walks.specs.walk_frames.ItemCursor.{frames_left}
use Rattle.fate_walks.proofs.FatesAndSeenRowsLaws.{FramesDone}
use Rattle.fate_walks.proofs.walk_fates.fates_report.write_frames.Given as goal

abbrev pub invariant-loop-frame : goal.invariant-loop-frame
invariant-loop-frame g l = (done : List Ended) × FramesDone (leg_of l.walk.script) l.walk.counts l.cursor l.ended done
    × ((start : Start) (before : List ℕ) → HasText g.K.ByteSink.written g.K.ByteSink.faults l.fn.got start before
    → HasText g.K.ByteSink.written g.K.ByteSink.faults l.got start (before ++ flat_map ended_text done))

abbrev pub decreases-loop-frame : goal.decreases-loop-frame
decreases-loop-frame g l = length (frames_left (leg_of l.walk.script) l.cursor)
