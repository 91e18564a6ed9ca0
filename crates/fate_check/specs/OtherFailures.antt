-- A scenario of which one line has other failures.
use Rattle.std.specs.Prelude.{ℕ, List, slice_set}
use Rattle.law_model.specs.declared.window_types.Window.{Window}
use Rattle.law_model.specs.session.Scenario.{Scenario}

abbrev pub with_windows : Scenario → ℕ → List Window → Scenario
with_windows scenario line windows = record scenario { windows = slice_set scenario.windows line windows }
