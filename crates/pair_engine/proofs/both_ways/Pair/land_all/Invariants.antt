-- Items have landed, each of the last events one.
use Rattle.std.proofs.Common.{◌≡◌, ◌-◌}
use Rattle.pair_engine.specs.PairAfterEvent.{plan_of, with_counts, SameRows}
use Rattle.pair_engine.proofs.PairEventAndRoundLaws.{Landed, landed_on, items_on}
use Rattle.pair_engine.proofs.both_ways.Pair.land_all.Given as goal

abbrev pub invariant-loop : goal.invariant-loop
invariant-loop l = record {
  pair : l.self ≡ with_counts l.fn.self l.self.counts;
  landed : Landed (plan_of l.fn.self) l.way l.fn.self.counts l.self.counts;
  rows : SameRows l.fn.self l.self;
}

abbrev pub decreases-loop : goal.decreases-loop
decreases-loop l = items_on (plan_of l.fn.self) l.way - landed_on l.self.counts l.way
