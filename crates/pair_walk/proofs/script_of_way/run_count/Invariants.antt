-- The runs so far and those that are left.
use Rattle.std.proofs.Common.{◌≡◌, ◌+◌, ◌-◌, ◌≤◌, length}
use Rattle.law_pair.specs.Common.{unheard}
use Rattle.pair_walk.specs.OneWay.{runs_left}
use Rattle.pair_walk.proofs.script_of_way.run_count.Given as goal

abbrev pub invariant-loop-end : goal.invariant-loop-end
invariant-loop-end l = record {
  count : l.runs + length (runs_left l.other l.from l.packets) ≡ length (unheard l.other l.packets);
  few : l.runs ≤ l.from;
  within : l.from ≤ l.packets;
}

abbrev pub decreases-loop-end : goal.decreases-loop-end
decreases-loop-end l = l.packets - l.from
