-- Fewer frames have a delay below the lesser bound, and as many one of at most the greater.
use Rattle.std.proofs.Common.{◌≡◌, ℕ, ◌-◌, ◌≤◌, ◌<◌, nat_le, true, false}
use Rattle.fate_service.specs.Delays.{count_within}
use Rattle.fate_service.proofs.frame_delays.least_delay.Given as goal

abbrev pub invariant-loop-low : goal.invariant-loop-low
invariant-loop-low l =
    (l.low ≤ l.high) × (l.high ≤ l.greatest)
    × ((d : ℕ) → d < l.low → nat_le l.frames (count_within l.carried d) ≡ false)
    × (l.high < l.greatest → nat_le l.frames (count_within l.carried l.high) ≡ true)

abbrev pub decreases-loop-low : goal.decreases-loop-low
decreases-loop-low l = l.high - l.low
