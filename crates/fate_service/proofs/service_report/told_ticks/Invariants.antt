-- The frames so far.
use Rattle.std.proofs.Common.{◌≡◌, ◌+◌, ◌≤◌, drop}
use Rattle.law_model.specs.Common.{most_ticks}
use Rattle.fate_service.specs.Stretches.{told_on}
use Rattle.fate_service.proofs.service_report.told_ticks.Given as goal

abbrev pub invariant-loop-frame : goal.invariant-loop-frame
invariant-loop-frame l =
    (told_on l.told (drop l.frame-index l.offered) ≡ told_on l.ticks l.offered) × (l.told ≤ most_ticks + 1)
