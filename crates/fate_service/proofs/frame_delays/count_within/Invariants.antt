-- The frames so far.
use Rattle.std.proofs.Common.{◌≡◌, ◌≤◌, drop}
use Rattle.fate_service.specs.Delays.{within_on, count_within}
use Rattle.fate_service.proofs.frame_delays.count_within.Given as goal

abbrev pub invariant-loop-frame : goal.invariant-loop-frame
invariant-loop-frame l =
    (within_on l.count l.most (drop l.frame-index l.carried) ≡ count_within l.carried l.most)
    × (l.count ≤ l.frame-index)
