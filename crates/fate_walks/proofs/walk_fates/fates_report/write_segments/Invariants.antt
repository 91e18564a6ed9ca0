-- The lines of the segments so far are written.
use Rattle.std.proofs.Common.{ℕ, List, ◌++◌, take, flat_map}
use Rattle.law_model.specs.Common.{leg_of, Start}
use Rattle.text_got.specs.TextSoFar.{HasText}
use Rattle.law_walk.specs.Common.{session_rows}
use Rattle.fate_engine.specs.Common.{later_segments}
use Rattle.fate_walks.specs.walk_fates.MadeWalk.{segment_in}
use Rattle.fate_walks.proofs.walk_fates.fates_report.write_segments.Given as goal

abbrev pub invariant-loop-i : goal.invariant-loop-i
invariant-loop-i g l = (start : Start) (before : List ℕ) →
    HasText g.K.ByteSink.written g.K.ByteSink.faults l.fn.got start before →
    HasText g.K.ByteSink.written g.K.ByteSink.faults l.got start
    (before ++ flat_map (segment_in (leg_of l.walk.script) l.walk.counts.rows)
    (take l.i (later_segments (session_rows (leg_of l.walk.script) l.walk.counts.rows))))
