-- A round but for its rows.
use Rattle.std.proofs.Common.{suc, length, replicate, refl, ◌∙◌, ap}
use Rattle.law_pair.specs.Common.{PairPlan, pair_step, pair_run, carries_on}
use Rattle.law_pair.specs.declared.pair_events.Way.TheVariants.{There, Back}
use Rattle.law_pair.specs.declared.pair_events.PairEvent.TheVariants.{Item, Tick}
use Rattle.pair_engine.specs.PairAfterEvent.{Paired, plan_of}
use Rattle.pair_engine.proofs.PairEventAndRoundLaws.{round-run, keeps, same-plan}
use Rattle.pair_engine.proofs.both_ways.Pair.prepare.Goals as goal

pub returns : goal.returns
returns c =
    let s0 = c.args.self.now in
    let s1 = c.land_all.new.self in
    let s2 = c.land_all-2.new.self in
    let s3 = c.tick.new.self in
    let s4 = c.carry_all.new.self in
    let s5 = c.carry_all-2.new.self in
    let k1 = keeps s0 s0 s1 _ refl c.land_all.ensures.pair in
    let k2 = keeps s0 s1 s2 _ k1 c.land_all-2.ensures.pair in
    let k3 = keeps s0 s2 s3 _ k2 c.tick.ensures.pair in
    let k4 = keeps s0 s3 s4 _ k3 c.carry_all.ensures.pair in
    record {
      scripts = keeps s0 s4 s5 _ k4 c.carry_all-2.ensures.pair;
      counts = round-run (plan_of s0) s0.counts s1.counts s2.counts s3.counts s4.counts s5.counts
          (ap (λ (p : Paired). p.counts) c.land_all.ensures.pair)
          (ap (λ (p : Paired). p.counts) c.land_all-2.ensures.pair
          ∙ ap (λ (p : PairPlan). pair_run p s1.counts (replicate (suc (length p.back.items)) (Item Back)))
          (same-plan s0 s1 k1))
          (ap (λ (p : Paired). p.counts) c.tick.ensures.pair
          ∙ ap (λ (p : PairPlan). (pair_step p s2.counts Tick).counts) (same-plan s0 s2 k2))
          (ap (λ (p : Paired). p.counts) c.carry_all.ensures.pair
          ∙ ap (λ (p : PairPlan). pair_run p s3.counts (carries_on There 0 p.there.paths)) (same-plan s0 s3 k3))
          (ap (λ (p : Paired). p.counts) c.carry_all-2.ensures.pair
          ∙ ap (λ (p : PairPlan). pair_run p s4.counts (carries_on Back 0 p.back.paths)) (same-plan s0 s4 k4));
      rows = record {
        there = c.carry_all-2.ensures.rows.there ∙ c.carry_all.ensures.rows.there ∙ c.tick.ensures.rows.there
            ∙ c.land_all-2.ensures.rows.there ∙ c.land_all.ensures.rows.there;
        back = c.carry_all-2.ensures.rows.back ∙ c.carry_all.ensures.rows.back ∙ c.tick.ensures.rows.back
            ∙ c.land_all-2.ensures.rows.back ∙ c.land_all.ensures.rows.back;
      };
    }
