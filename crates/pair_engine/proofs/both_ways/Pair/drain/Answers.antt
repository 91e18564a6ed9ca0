-- A round more, or all rows are taken.
use Rattle.std.proofs.Common.{refl, sym, ◌∙◌, ap, arith}
use Rattle.law_pair.specs.Common.{PairPlan, is_over, pair_bound}
use Rattle.law_pair.specs.declared.pair_events.Way.TheVariants.{There, Back}
use Rattle.law_pair.proofs.PairMeasureAndDrainLaws.{pair-stops}
use Rattle.pair_engine.specs.PairAfterEvent.{leg_on, plan_of, with_counts}
use Rattle.pair_engine.proofs.PairEventAndRoundLaws.{keeps, same-plan, round-more, gives-more, over-rows}
use Rattle.pair_engine.proofs.TakenRowAndHeardPacketLaws.{gives-none}
use Rattle.pair_engine.proofs.both_ways.Pair.drain.Goals as goal

pub loop-self-init : goal.loop-self-init
loop-self-init g c = record {
  pair = refl;
  left = refl;
  there_rises = omega arith;
  back_rises = omega arith;
  gives_there = gives-none g.F.FrameOut.stands_for c.args.there.now (leg_on c.args.self.now There) _;
  gives_back = gives-none g.G.FrameOut.stands_for c.args.back.now (leg_on c.args.self.now Back) _;
}

pub loop-self-smaller : goal.loop-self-smaller
loop-self-smaller g c =
    (round-more c.args.self.now c.loop-self.self c.round.new.self c.loop-self.invariant.pair c.is_over.ensures.fits
    c.is_over.ensures.walked (sym c.is_over.ensures.over ∙ c.loop-self-test.true) c.round.ensures.pair).0

pub loop-self-preserved : goal.loop-self-preserved
loop-self-preserved g c =
    let inv = c.loop-self.invariant in
    let s0 = c.args.self.now in
    let s1 = c.loop-self.self in
    let s2 = c.round.new.self in
    let there_up = inv.there_rises in
    let back_up = inv.back_rises in
    let there_more = c.round.ensures.rises.there in
    let back_more = c.round.ensures.rises.back in
    record {
      pair = keeps s0 s1 s2 _ inv.pair c.round.ensures.pair;
      left = (round-more s0 s1 s2 inv.pair c.is_over.ensures.fits c.is_over.ensures.walked
          (sym c.is_over.ensures.over ∙ c.loop-self-test.true) c.round.ensures.pair).1 ∙ inv.left;
      there_rises = omega (arith, there_up, there_more);
      back_rises = omega (arith, back_up, back_more);
      gives_there = gives-more g.F.FrameOut.stands_for c.args.there.now c.loop-self.there c.round.new.there There s0 s1
          s2 inv.pair inv.there_rises c.round.ensures.rises.there inv.gives_there c.round.ensures.gives_there;
      gives_back = gives-more g.G.FrameOut.stands_for c.args.back.now c.loop-self.back c.round.new.back Back s0 s1 s2
          inv.pair inv.back_rises c.round.ensures.rises.back inv.gives_back c.round.ensures.gives_back;
    }

pub returns : goal.returns
returns g c =
    let inv = c.loop-self.invariant in
    let plan = plan_of c.args.self.now in
    let over = sym c.is_over.ensures.over ∙ c.loop-self-test.false in
    let shut = ap (λ (p : PairPlan). is_over p c.loop-self.self.counts)
    (sym (same-plan c.args.self.now c.loop-self.self inv.pair)) ∙ over in
    let (there, back) = over-rows c.args.self.now c.loop-self.self inv.pair c.is_over.ensures.fits
    c.is_over.ensures.walked over in
    record {
      pair = inv.pair ∙ ap (with_counts c.args.self.now)
          (sym (pair-stops plan c.loop-self.self.counts (pair_bound plan) shut) ∙ inv.left);
      there = there;
      back = back;
      gives_there = inv.gives_there;
      gives_back = inv.gives_back;
    }
