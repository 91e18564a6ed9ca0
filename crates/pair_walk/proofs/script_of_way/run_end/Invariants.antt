-- All so far are lost.
use Rattle.std.proofs.Common.{◌≡◌, ℕ, ◌<◌, ◌≤◌, true}
use Rattle.law_pair.specs.Common.{is_unheard}
use Rattle.pair_walk.proofs.script_of_way.run_end.Given as goal

abbrev pub invariant-loop-packet : goal.invariant-loop-packet
invariant-loop-packet l = (k : ℕ) → l.from ≤ k → k < l.packet → is_unheard l.other k ≡ true
