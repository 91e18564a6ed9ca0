-- The frames so far.
use Rattle.std.proofs.Common.{◌≡◌, ◌≤◌, ◌*◌, drop}
use Rattle.fate_service.specs.Stretches.{ended_on, ended_of}
use Rattle.fate_service.proofs.stretch_counts.count_ended.Given as goal

abbrev pub invariant-loop-frame : goal.invariant-loop-frame
invariant-loop-frame l =
    (ended_on l.ended (drop l.frame-index l.frames) ≡ ended_of l.frames)
    × (l.ended.got.frames ≤ l.frame-index) × (l.ended.got.octets ≤ 65536 * l.frame-index)
    × (l.ended.lost.frames ≤ l.frame-index) × (l.ended.lost.octets ≤ 65536 * l.frame-index)
