-- The least of the lines from some place on.
use Rattle.std.proofs.Common.{◌≡◌, drop}
use Rattle.fate_engine.specs.Common.{least_failing, whole_on}
use Rattle.fate_engine.proofs.fate_core.cause_of_row.least_cut.Given as goal

abbrev pub invariant-loop-i : goal.invariant-loop-i
invariant-loop-i l = l.least ≡ least_failing (whole_on l.windows l.from l.count) (drop l.i l.lines)
