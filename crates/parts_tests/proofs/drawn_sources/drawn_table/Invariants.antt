-- As many steps were made as there were turns.
use Rattle.std.proofs.Common.{◌≡◌}
use Rattle.parts_tests.proofs.drawn_sources.drawn_table.Given as goal

abbrev pub invariant-loop-step : goal.invariant-loop-step
invariant-loop-step l = l.table.steps ≡ l.step
