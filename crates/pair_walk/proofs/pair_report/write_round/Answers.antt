-- The row of the way there, and that of the way back where no write has failed.
use Rattle.std.proofs.Common.{◌≡◌, true, false, not, rules, refl, ◌∙◌, ap}
use Rattle.law_pair.specs.Common.{PairPlan, pair_step}
use Rattle.law_pair.specs.declared.pair_events.Way.TheVariants.{There, Back}
use Rattle.law_pair.specs.declared.pair_events.PairEvent.TheVariants.{Take}
use Rattle.pair_engine.specs.PairAfterEvent.{Paired, plan_of, with_counts}
use Rattle.pair_engine.proofs.PairEventAndRoundLaws.{keeps, same-plan, round-rows}
use Rattle.pair_walk.proofs.PairReportRowsLaws.{few-same, few-take, more-take, same-more, more-then}
use Rattle.pair_walk.proofs.PairReportRowsLaws.{gives-still, gives-row}
use Rattle.pair_walk.proofs.pair_report.write_round.Goals as goal

-- ---- a write of the way there has failed
pub returns-then-failed : goal.returns-then-failed
returns-then-failed g c =
    let s0 = c.args.pair.now in
    let s1 = c.prepare.new.self in
    let s2 = c.step.new.self in
    let ready = c.prepare.ensures in
    let one = c.step.ensures in
    record {
      scripts = keeps s0 s1 s2 _ ready.scripts one.pair;
      counts = λ (whole : true ≡ false). absurd cc;
      rises = same-more s0 s1 s2 ready.rows (more-take s1 s2 There one.pair);
      few = λ few. few-take s1 s2 There one.pair (few-same s0 s1 ready.scripts ready.rows few);
      gives_there = gives-row g.F.FrameOut.stands_for There c.args.there.now c.step.new.there s0 s1 s2 s2 ready.scripts
          ready.rows.there refl one.gives_there;
      gives_back = gives-still g.G.FrameOut.stands_for Back c.args.back.now s0 s2
          (ap (λ (p : Paired). p.counts.back.rows) one.pair ∙ ready.rows.back);
      failed = c.requires.back ∙ ap not c.if-failed.ensures;
    }

-- ---- both rows
pub returns : goal.returns
returns g c =
    let s0 = c.args.pair.now in
    let s1 = c.prepare.new.self in
    let s2 = c.step.new.self in
    let s3 = c.step-2.new.self in
    let ready = c.prepare.ensures in
    let one = c.step.ensures in
    let two = c.step-2.ensures in
    let k2 = keeps s0 s1 s2 _ ready.scripts one.pair in
    let k3 = keeps s0 s2 s3 _ k2 two.pair in
    record {
      scripts = k3;
      counts = λ whole. k3 ∙ ap (with_counts s0)
          (round-rows (plan_of s0) s0.counts s1.counts s2.counts s3.counts ready.counts
          (ap (λ (p : Paired). p.counts) one.pair
          ∙ ap (λ (p : PairPlan). (pair_step p s1.counts (Take There)).counts) (same-plan s0 s1 ready.scripts))
          (ap (λ (p : Paired). p.counts) two.pair
          ∙ ap (λ (p : PairPlan). (pair_step p s2.counts (Take Back)).counts) (same-plan s0 s2 k2)));
      rises = same-more s0 s1 s3 ready.rows
          (more-then s1 s2 s3 (more-take s1 s2 There one.pair) (more-take s2 s3 Back two.pair));
      few = λ few. few-take s2 s3 Back two.pair
          (few-take s1 s2 There one.pair (few-same s0 s1 ready.scripts ready.rows few));
      gives_there = gives-row g.F.FrameOut.stands_for There c.args.there.now c.step.new.there s0 s1 s2 s3 ready.scripts
          ready.rows.there (ap (λ (p : Paired). p.counts.there.rows) two.pair) one.gives_there;
      gives_back = gives-row g.G.FrameOut.stands_for Back c.args.back.now c.step-2.new.back s0 s2 s3 s3 k2
          (ap (λ (p : Paired). p.counts.back.rows) one.pair ∙ ready.rows.back) refl two.gives_back;
      failed = search rules;
    }
