-- No run begins so far.
use Rattle.std.proofs.Common.{◌≡◌}
use Rattle.pair_walk.specs.OneWay.{runs_left}
use Rattle.pair_walk.proofs.script_of_way.next_run.Given as goal

abbrev pub invariant-loop-packet : goal.invariant-loop-packet
invariant-loop-packet l = runs_left l.other l.from l.packets ≡ runs_left l.other l.packet l.packets
