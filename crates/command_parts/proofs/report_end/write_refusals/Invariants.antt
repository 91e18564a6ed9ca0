-- The lines of the refusals so far are written.
use Rattle.std.proofs.Common.{◌≡◌, ℕ, List, ◌++◌, length}
use Rattle.law_model.specs.Common.{Start}
use Rattle.text_report.specs.ReportLines.{refused_texts}
use Rattle.text_got.specs.TextSoFar.{HasText}
use Rattle.command_parts.proofs.report_end.write_refusals.Given as goal

abbrev pub invariant-loop-item : goal.invariant-loop-item
invariant-loop-item g l = (start : Start) (before : List ℕ) →
    HasText g.K.ByteSink.written g.K.ByteSink.faults l.fn.got start before →
    (written : List ℕ) × (refused_texts l.fn.refusals ≡ written ++ refused_texts l.left)
    × HasText g.K.ByteSink.written g.K.ByteSink.faults l.got start (before ++ written)

abbrev pub decreases-loop-item : goal.decreases-loop-item
decreases-loop-item g l = length l.left
