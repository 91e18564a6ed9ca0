-- All before one place are below, and none from another one on.
use Rattle.std.proofs.Common.{◌-◌, ◌<◌, ◌≤◌, length, take, drop, All}
use Rattle.gfp_channels.proofs.gfp_linear.busy_channels.count_below.Given as goal

abbrev pub invariant-loop-low : goal.invariant-loop-low
invariant-loop-low l = record {
  order : l.low ≤ l.high;
  within : l.high ≤ length l.fn.busy;
  below : All (λ cid. cid < l.fn.least) (take l.low l.fn.busy);
  from : All (λ cid. l.fn.least ≤ cid) (drop l.high l.fn.busy);
}

abbrev pub decreases-loop-low : goal.decreases-loop-low
decreases-loop-low l = l.high - l.low
