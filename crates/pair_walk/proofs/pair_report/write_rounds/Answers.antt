-- A round more, or all rows are taken, or a write has failed.
use Rattle.std.proofs.Common.{◌≡◌, true, false, refl, sym, ◌∙◌, ap, subst, arith}
use Rattle.law_pair.specs.Common.{IsPair, PairPlan, is_over, pair_bound}
use Rattle.law_pair.specs.declared.pair_events.Way.TheVariants.{There, Back}
use Rattle.law_pair.proofs.PairMeasureAndDrainLaws.{pair-stops}
use Rattle.pair_engine.specs.PairAfterEvent.{Paired, leg_on, plan_of, with_counts}
use Rattle.pair_engine.proofs.PairEventAndRoundLaws.{keeps, same-plan, round-more, gives-more}
use Rattle.pair_engine.proofs.TakenRowAndHeardPacketLaws.{gives-none}
use Rattle.pair_walk.proofs.PairReportRowsLaws.{more-then}
use Rattle.pair_walk.proofs.pair_report.write_rounds.Goals as goal

pub loop-pair-init : goal.loop-pair-init
loop-pair-init g c = record {
  pair = refl;
  left = refl;
  rises = record { there = omega arith; back = omega arith };
  few = λ few. few;
  gives_there = gives-none g.F.FrameOut.stands_for c.args.there.now (leg_on c.args.pair.now There) _;
  gives_back = gives-none g.G.FrameOut.stands_for c.args.back.now (leg_on c.args.pair.now Back) _;
  there = c.requires.there;
  back = c.requires.back;
}

-- ---- a write has failed
pub returns-then-write_round : goal.returns-then-write_round
returns-then-write_round g c =
    let inv = c.loop-pair.invariant in
    let s0 = c.args.pair.now in
    let s1 = c.loop-pair.pair in
    let s2 = c.write_round.new.pair in
    let round = c.write_round.ensures in
    record {
      scripts = keeps s0 s1 s2 _ inv.pair round.scripts;
      drained = λ (whole : true ≡ false). absurd cc;
      fits = subst (λ (p : Paired). IsPair p.there p.back) inv.pair c.is_over.ensures.fits;
      few = λ few. round.few (inv.few few);
      gives_there = gives-more g.F.FrameOut.stands_for c.args.there.now c.loop-pair.there c.write_round.new.there There
          s0 s1 s2 inv.pair inv.rises.there round.rises.there inv.gives_there round.gives_there;
      gives_back = gives-more g.G.FrameOut.stands_for c.args.back.now c.loop-pair.back c.write_round.new.back Back s0 s1
          s2 inv.pair inv.rises.back round.rises.back inv.gives_back round.gives_back;
      failed = c.if-write_round.ensures.failed;
    }

-- ---- a round more
pub loop-pair-smaller : goal.loop-pair-smaller
loop-pair-smaller g c =
    (round-more c.args.pair.now c.loop-pair.pair c.write_round.new.pair c.loop-pair.invariant.pair
    c.is_over.ensures.fits c.is_over.ensures.walked (sym c.is_over.ensures.over ∙ c.loop-pair-test.true)
    (c.if-write_round.ensures.counts refl)).0

pub loop-pair-preserved : goal.loop-pair-preserved
loop-pair-preserved g c =
    let inv = c.loop-pair.invariant in
    let s0 = c.args.pair.now in
    let s1 = c.loop-pair.pair in
    let s2 = c.write_round.new.pair in
    let more = c.write_round.ensures.rises in
    record {
      pair = keeps s0 s1 s2 _ inv.pair c.write_round.ensures.scripts;
      left = (round-more s0 s1 s2 inv.pair c.is_over.ensures.fits c.is_over.ensures.walked
          (sym c.is_over.ensures.over ∙ c.loop-pair-test.true) (c.if-write_round.ensures.counts refl)).1 ∙ inv.left;
      rises = more-then s0 s1 s2 inv.rises more;
      few = λ few. c.write_round.ensures.few (inv.few few);
      gives_there = gives-more g.F.FrameOut.stands_for c.args.there.now c.loop-pair.there c.write_round.new.there There
          s0 s1 s2 inv.pair inv.rises.there more.there inv.gives_there c.write_round.ensures.gives_there;
      gives_back = gives-more g.G.FrameOut.stands_for c.args.back.now c.loop-pair.back c.write_round.new.back Back s0 s1
          s2 inv.pair inv.rises.back more.back inv.gives_back c.write_round.ensures.gives_back;
      there = c.if-write_round.ensures.failed.0;
      back = c.if-write_round.ensures.failed.1;
    }

-- ---- all rows are taken
pub returns-clause-drained : goal.returns-clause-drained
returns-clause-drained g c whole =
    let inv = c.loop-pair.invariant in
    let s0 = c.args.pair.now in
    let s1 = c.loop-pair.pair in
    let plan = plan_of s0 in
    let shut = ap (λ (p : PairPlan). is_over p s1.counts) (sym (same-plan s0 s1 inv.pair))
    ∙ sym c.is_over.ensures.over ∙ c.loop-pair-test.false in
    inv.pair ∙ ap (with_counts s0) (sym (pair-stops plan s1.counts (pair_bound plan) shut) ∙ inv.left)

pub returns-clause-fits : goal.returns-clause-fits
returns-clause-fits g c =
    subst (λ (p : Paired). IsPair p.there p.back) c.loop-pair.invariant.pair c.is_over.ensures.fits

pub returns-clause-few : goal.returns-clause-few
returns-clause-few g c few = c.loop-pair.invariant.few few
