-- The lines of the runs so far are written.
use Rattle.std.proofs.Common.{ℕ, List, ◌++◌, take, flat_map}
use Rattle.law_model.specs.Common.{Start}
use Rattle.text_got.specs.TextSoFar.{HasText}
use Rattle.fate_engine.specs.Common.{spoiled_text}
use Rattle.fate_walks.proofs.walk_fates.fates_report.write_runs.Given as goal

abbrev pub invariant-loop-run : goal.invariant-loop-run
invariant-loop-run g l = (start : Start) (before : List ℕ) →
    HasText g.K.ByteSink.written g.K.ByteSink.faults l.fn.got start before →
    HasText g.K.ByteSink.written g.K.ByteSink.faults l.got start
    (before ++ flat_map spoiled_text (take l.run-index l.runs))
