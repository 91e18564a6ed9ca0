-- Counts of what became of frames.
use Rattle.std.specs.Prelude.{◌+◌}
use Rattle.fate_engine.specs.declared.fate_law.Fate.{Fate}
use Rattle.fate_engine.specs.declared.fate_law.Fate.TheVariants.{Waits, Cut, Unconfirmed, Hunting, Unsettled, Got}
use Rattle.fate_engine.specs.declared.fate_core.fate_totals.FateTotals.{FateTotals}

abbrev one_lost : FateTotals → FateTotals
one_lost totals = record { got = totals.got; lost = totals.lost + 1; waits = totals.waits }

-- with one more frame
abbrev pub counted : FateTotals → Fate → FateTotals
counted totals Waits = record { got = totals.got; lost = totals.lost; waits = totals.waits + 1 }
counted totals (Cut first last spoiled) = one_lost totals
counted totals (Unconfirmed first last) = one_lost totals
counted totals (Hunting first last) = one_lost totals
counted totals (Unsettled first last) = one_lost totals
counted totals (Got first last) = record { got = totals.got + 1; lost = totals.lost; waits = totals.waits }
