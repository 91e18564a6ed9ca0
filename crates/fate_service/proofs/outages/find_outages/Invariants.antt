-- The outages of the rows so far.
use Rattle.std.proofs.Common.{◌≡◌, drop, All}
use Rattle.fate_service.specs.Outages.{outages_on, outages_of, HasFewSpoiled}
use Rattle.fate_service.proofs.outages.find_outages.Given as goal

abbrev pub invariant-loop-i : goal.invariant-loop-i
invariant-loop-i l =
    (outages_on l.outages.items l.i (drop l.i l.states) ≡ outages_of l.states) × All HasFewSpoiled l.outages.items
