-- A round with its rows.
use Rattle.std.proofs.Common.{◌≤◌, sym, ◌∙◌, ap, subst, arith}
use Rattle.law_pair.specs.Common.{PairPlan, PairCounts, counts_on, pair_step}
use Rattle.law_pair.specs.declared.pair_events.Way.{Way}
use Rattle.law_pair.specs.declared.pair_events.Way.TheVariants.{There, Back}
use Rattle.law_pair.specs.declared.pair_events.PairEvent.TheVariants.{Take}
use Rattle.pair_engine.specs.PairAfterEvent.{Paired, plan_of, with_counts}
use Rattle.pair_engine.proofs.PairEventAndRoundLaws.{keeps, same-plan, take-rise, round-rows, gives-both}
use Rattle.pair_engine.proofs.both_ways.Pair.round.Goals as goal

pub returns : goal.returns
returns g c =
    let s0 = c.args.self.now in
    let s1 = c.prepare.new.self in
    let s2 = c.take.new.self in
    let s3 = c.take-2.new.self in
    let k1 = c.prepare.ensures.scripts in
    let k2 = keeps s0 s1 s2 _ k1 c.take.ensures.pair in
    let one = ap (λ (p : Paired). p.counts) c.take.ensures.pair
    ∙ ap (λ (p : PairPlan). (pair_step p s1.counts (Take There)).counts) (same-plan s0 s1 k1) in
    let two = ap (λ (p : Paired). p.counts) c.take-2.ensures.pair
    ∙ ap (λ (p : PairPlan). (pair_step p s2.counts (Take Back)).counts) (same-plan s0 s2 k2) in
    let up = λ (way : Way).
    subst (λ (n : PairCounts). (counts_on s1.counts way).rows ≤ (counts_on n way).rows) (sym one)
    (take-rise (plan_of s0) s1.counts There way) in
    let more = λ (way : Way).
    subst (λ (n : PairCounts). (counts_on s2.counts way).rows ≤ (counts_on n way).rows) (sym two)
    (take-rise (plan_of s0) s2.counts Back way) in
    let there_up = up There in
    let there_more = more There in
    let back_up = up Back in
    let back_more = more Back in
    let rows = c.prepare.ensures.rows in
    record {
      pair = keeps s0 s2 s3 _ k2 c.take-2.ensures.pair
          ∙ ap (with_counts s0)
          (round-rows (plan_of s0) s0.counts s1.counts s2.counts s3.counts c.prepare.ensures.counts one two);
      rises = record {
        there = omega (arith, there_up, there_more, rows.there);
        back = omega (arith, back_up, back_more, rows.back);
      };
      gives_there = gives-both g.F.FrameOut.stands_for c.args.there.now c.take.new.there c.take-2.new.there There s0 s1
          s2 s3 k1 k2 rows.there there_up there_more c.take.ensures.gives_there c.take-2.ensures.gives_there;
      gives_back = gives-both g.G.FrameOut.stands_for c.args.back.now c.take.new.back c.take-2.new.back Back s0 s1
          s2 s3 k1 k2 rows.back back_up back_more c.take.ensures.gives_back c.take-2.ensures.gives_back;
    }
