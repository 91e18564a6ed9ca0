-- The line carries payload in none of the rows so far.
use Rattle.std.proofs.Common.{◌≡◌, ℕ, ◌-◌, ◌<◌, false, List, Option}
use Rattle.law_model.specs.Common.{Scenario, Told}
use Rattle.fate_engine.specs.Common.{ArePackets}
use Rattle.fate_check.specs.UsedLines.{is_used}
use Rattle.fate_check.proofs.used_lines.is_unused.Given as goal

abbrev pub invariant-loop-row : goal.invariant-loop-row
invariant-loop-row l = (scenario : Scenario) (cells : List (Option Told)) → ArePackets scenario cells l.packets →
    (t : ℕ) → t < l.row → is_used scenario cells l.line t ≡ false

abbrev pub decreases-loop-row : goal.decreases-loop-row
decreases-loop-row l = l.rows - l.row
