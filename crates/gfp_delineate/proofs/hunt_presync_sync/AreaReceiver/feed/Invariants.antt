-- The octets so far are taken, and no area ended with them.
use Rattle.std.proofs.Common.{◌-◌, ◌≤◌, [], length, take}
use Rattle.gfp_delineate.specs.ReceivedAreas.{Goes, Adds}
use Rattle.gfp_delineate.proofs.hunt_presync_sync.AreaReceiver.feed.Given as goal

abbrev pub invariant-loop-at : goal.invariant-loop-at
invariant-loop-at l = record {
  within : l.at ≤ length l.piece;
  takes : Goes l.fn.self l.self (take l.at l.piece) × Adds l.fn.self (take l.at l.piece) [];
}

abbrev pub decreases-loop-at : goal.decreases-loop-at
decreases-loop-at l = length l.piece - l.at
