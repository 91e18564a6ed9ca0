-- The failure spares the rows so far.
use Rattle.std.proofs.Common.{◌≡◌, ℕ, ◌-◌, ◌<◌, ◌≤◌, true, List, Option}
use Rattle.law_model.specs.Common.{Scenario, Told}
use Rattle.fate_engine.specs.Common.{ArePackets}
use Rattle.fate_check.specs.IdleWindows.{is_spared}
use Rattle.fate_check.proofs.idle_windows.is_idle.Given as goal

abbrev pub invariant-loop-row : goal.invariant-loop-row
invariant-loop-row l = (l.fn.window.first ≤ l.row)
    × ((scenario : Scenario) (cells : List (Option Told)) → scenario.windows ≡ l.windows →
    ArePackets scenario cells l.packets → (t : ℕ) → l.fn.window.first ≤ t → t < l.row →
    is_spared scenario cells l.line t ≡ true)

abbrev pub decreases-loop-row : goal.decreases-loop-row
decreases-loop-row l = l.end - l.row
