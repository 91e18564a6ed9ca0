-- The runs so far and those that are left.
use Rattle.std.proofs.Common.{◌≡◌, ◌-◌, ◌≤◌, ◌++◌}
use Rattle.law_pair.specs.Common.{unheard}
use Rattle.pair_walk.specs.OneWay.{runs_left}
use Rattle.pair_walk.proofs.script_of_way.all_runs.Given as goal

abbrev pub invariant-loop-first : goal.invariant-loop-first
invariant-loop-first l = record {
  all : l.runs.items ++ runs_left l.other l.from l.packets ≡ unheard l.other l.packets;
  within : l.from ≤ l.packets;
}

abbrev pub decreases-loop-first : goal.decreases-loop-first
decreases-loop-first l = l.packets - l.from
