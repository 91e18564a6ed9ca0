-- The carries that are left give what all of them give.
use Rattle.std.proofs.Common.{◌≡◌, drop}
use Rattle.law_pair.specs.Common.{plan_on, pair_run, carries_on}
use Rattle.pair_engine.specs.PairAfterEvent.{plan_of, with_counts, SameRows}
use Rattle.pair_engine.proofs.both_ways.Pair.carry_all.Given as goal

abbrev pub invariant-loop-line : goal.invariant-loop-line
invariant-loop-line l = record {
  pair : l.self ≡ with_counts l.fn.self l.self.counts;
  left : pair_run (plan_of l.fn.self) l.self.counts
      (carries_on l.way l.line (drop l.line (plan_on (plan_of l.fn.self) l.way).paths))
      ≡ pair_run (plan_of l.fn.self) l.fn.self.counts (carries_on l.way 0 (plan_on (plan_of l.fn.self) l.way).paths);
  rows : SameRows l.fn.self l.self;
}
