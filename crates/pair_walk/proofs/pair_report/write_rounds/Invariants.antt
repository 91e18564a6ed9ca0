-- No write has failed, and the rounds that are left give what all of them give.
use Rattle.std.proofs.Common.{◌≡◌, ◌-◌, false}
use Rattle.law_pair.specs.Common.{pair_bound, pair_drained}
use Rattle.law_pair.specs.declared.pair_events.Way.TheVariants.{There, Back}
use Rattle.law_pair.proofs.PairMeasureAndDrainLaws.{pair_made}
use Rattle.pair_engine.specs.PairAfterEvent.{plan_of, with_counts, GivesWay, MoreRows}
use Rattle.pair_walk.specs.Rounds.{FewRows}
use Rattle.pair_walk.proofs.pair_report.write_rounds.Given as goal

abbrev pub invariant-loop-pair : goal.invariant-loop-pair
invariant-loop-pair g l = record {
  pair : l.pair ≡ with_counts l.fn.pair l.pair.counts;
  left : pair_drained l.fn.pair.there l.fn.pair.back l.pair.counts
      ≡ pair_drained l.fn.pair.there l.fn.pair.back l.fn.pair.counts;
  rises : MoreRows l.fn.pair l.pair;
  few : FewRows l.fn.pair → FewRows l.pair;
  gives_there : GivesWay g.F.FrameOut.stands_for l.fn.there l.there l.fn.pair l.pair There;
  gives_back : GivesWay g.G.FrameOut.stands_for l.fn.back l.back l.fn.pair l.pair Back;
  there : g.F.MayFail.has_failed l.there ≡ false;
  back : g.G.MayFail.has_failed l.back ≡ false;
}

abbrev pub decreases-loop-pair : goal.decreases-loop-pair
decreases-loop-pair g l = pair_bound (plan_of l.fn.pair) - pair_made l.pair.counts
