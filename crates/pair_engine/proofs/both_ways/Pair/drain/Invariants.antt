-- The rounds that are left give what all of them give.
use Rattle.std.proofs.Common.{◌≡◌, ◌≤◌, ◌-◌}
use Rattle.law_pair.specs.Common.{pair_bound, pair_drained}
use Rattle.law_pair.specs.declared.pair_events.Way.TheVariants.{There, Back}
use Rattle.law_pair.proofs.PairMeasureAndDrainLaws.{pair_made}
use Rattle.pair_engine.specs.PairAfterEvent.{plan_of, with_counts, GivesWay}
use Rattle.pair_engine.proofs.both_ways.Pair.drain.Given as goal

abbrev pub invariant-loop-self : goal.invariant-loop-self
invariant-loop-self g l = record {
  pair : l.self ≡ with_counts l.fn.self l.self.counts;
  left : pair_drained l.fn.self.there l.fn.self.back l.self.counts
      ≡ pair_drained l.fn.self.there l.fn.self.back l.fn.self.counts;
  there_rises : l.fn.self.counts.there.rows ≤ l.self.counts.there.rows;
  back_rises : l.fn.self.counts.back.rows ≤ l.self.counts.back.rows;
  gives_there : GivesWay g.F.FrameOut.stands_for l.fn.there l.there l.fn.self l.self There;
  gives_back : GivesWay g.G.FrameOut.stands_for l.fn.back l.back l.fn.self l.self Back;
}

abbrev pub decreases-loop-self : goal.decreases-loop-self
decreases-loop-self g l = pair_bound (plan_of l.fn.self) - pair_made l.self.counts
