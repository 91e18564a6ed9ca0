-- The session that would be without some failures, and failures that no status says.
use Rattle.std.specs.Prelude.{◌≡◌, ℕ, ◌+◌, ◌*◌, ◌<◌, ◌≤◌, nat_le, nat_lt, ◌&&◌, not, map, filter, Bool, List, slice_get}
use Rattle.std.specs.Prelude.{Some}
use Rattle.law_model.specs.Common.{Leg, scenario_by, is_line_up}
use Rattle.law_model.specs.declared.window_types.Window.{Window}
use Rattle.law_session.specs.Feedback.{lines_of}
use Rattle.law_service.specs.cost_of_failures.Cost.{windows_of, FailsBy, first_hit, table_at, SaysOf}

-- a window begins at a container or later, and before another one
abbrev pub begins_in : ℕ → ℕ → Window → Bool
begins_in from horizon window = nat_le from window.first && nat_lt window.first horizon

-- windows without those that begin there
abbrev pub windows_but : ℕ → ℕ → List Window → List Window
windows_but from horizon windows = filter (λ (window : Window). not (begins_in from horizon window)) windows

-- a leg without the failures of all lines that begin there
abbrev pub without : Leg → ℕ → ℕ → Leg
without leg from horizon = record leg {
  config = record leg.config { windows = map (windows_but from horizon) leg.config.windows };
}

-- no status says anything of the failures: at each packet from the first on that can be hit, and that says a status of
-- its SQ, a line that fails is up exactly if it would be so without them
abbrev pub IsUnnoticed : Leg → ℕ → ℕ → Type 0
IsUnnoticed leg from horizon = (line sq k : ℕ) (window : Window) → FailsBy (windows_of leg line) window from horizon →
    slice_get (lines_of (table_at leg from).order) sq ≡ Some line → first_hit from ≤ k →
    16 * (k + leg.config.lag) + 24 < horizon → SaysOf leg sq k →
    is_line_up (scenario_by leg) line k ≡ is_line_up (scenario_by (without leg from horizon)) line k
