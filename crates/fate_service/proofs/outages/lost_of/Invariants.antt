-- The lost frames so far.
use Rattle.std.proofs.Common.{◌≡◌, ◌≤◌, ◌*◌, drop}
use Rattle.fate_service.specs.FrameColumns.{no_frames}
use Rattle.fate_service.specs.Outages.{lost_on}
use Rattle.fate_service.proofs.outages.lost_of.Given as goal

abbrev pub invariant-loop-frame : goal.invariant-loop-frame
invariant-loop-frame l =
    (lost_on l.lost (drop l.frame-index l.carried) ≡ lost_on no_frames l.carried)
    × (l.lost.frames ≤ l.frame-index) × (l.lost.octets ≤ 65536 * l.frame-index)
