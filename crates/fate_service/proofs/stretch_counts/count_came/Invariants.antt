-- The frames so far.
use Rattle.std.proofs.Common.{◌≡◌, ◌≤◌, ◌*◌, drop}
use Rattle.fate_service.specs.Stretches.{came_on, came_of}
use Rattle.fate_service.proofs.stretch_counts.count_came.Given as goal

abbrev pub invariant-loop-frame : goal.invariant-loop-frame
invariant-loop-frame l =
    (came_on l.came (drop l.frame-index l.frames) ≡ came_of l.frames)
    × (l.came.offered.frames ≤ l.frame-index) × (l.came.offered.octets ≤ 65536 * l.frame-index)
    × (l.came.refused.frames ≤ l.came.offered.frames) × (l.came.refused.octets ≤ l.came.offered.octets)
