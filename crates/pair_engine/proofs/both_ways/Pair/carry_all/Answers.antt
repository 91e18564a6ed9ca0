-- One line more.
use Rattle.std.proofs.Common.{◌+◌, ◌<◌, length, drop, refl, sym, ◌∙◌, ap, subst, arith}
use Rattle.law_pair.specs.Common.{PairPlan, PairCounts, plan_on, pair_step, pair_run, carries_on}
use Rattle.law_pair.specs.declared.pair_events.PairEvent.TheVariants.{Carry}
use Rattle.pair_engine.specs.PairAfterEvent.{Paired, plan_of, with_counts}
use Rattle.pair_engine.proofs.PairEventAndRoundLaws.{carry-next, carry-last, keeps, same-plan}
use Rattle.pair_engine.proofs.both_ways.Pair.carry_all.Goals as goal

pub loop-line-init : goal.loop-line-init
loop-line-init c = record { pair = refl; left = refl; rows = record { there = refl; back = refl } }

pub carry-requires : goal.carry-requires
carry-requires c =
    let test = c.loop-line-test.true in
    let paths = c.lines-line-end.ensures.paths in
    subst (λ (plan : PairPlan). c.loop-line.line < length (plan_on plan c.args.way).paths)
    (sym (same-plan c.args.self.now c.loop-line.self c.loop-line.invariant.pair)) (omega (arith, test, paths))

pub loop-line-preserved : goal.loop-line-preserved
loop-line-preserved c =
    let inv = c.loop-line.invariant in
    let test = c.loop-line-test.true in
    let paths = c.lines-line-end.ensures.paths in
    let plan : PairPlan = plan_of c.args.self.now in
    let line = c.loop-line.line in
    let same = same-plan c.args.self.now c.loop-line.self inv.pair in
    let counts = ap (λ (p : Paired). p.counts) c.carry.ensures.pair
    ∙ ap (λ (p : PairPlan). (pair_step p c.loop-line.self.counts (Carry c.args.way line)).counts) same in
    record {
      pair = keeps c.args.self.now c.loop-line.self c.carry.new.self _ inv.pair c.carry.ensures.pair;
      left = ap (λ (s : PairCounts). pair_run plan s
          (carries_on c.args.way (line + 1) (drop (line + 1) (plan_on plan c.args.way).paths))) counts
          ∙ sym (carry-next plan c.args.way c.loop-line.self.counts (plan_on plan c.args.way).paths line
          (omega (arith, test, paths)))
          ∙ inv.left;
      rows = record {
        there = c.carry.ensures.rows.there ∙ inv.rows.there;
        back = c.carry.ensures.rows.back ∙ inv.rows.back;
      };
    }

pub returns-clause-pair : goal.returns-clause-pair
returns-clause-pair c =
    let inv = c.loop-line.invariant in
    let test = c.loop-line-test.false in
    let paths = c.lines-line-end.ensures.paths in
    let plan : PairPlan = plan_of c.args.self.now in
    inv.pair ∙ ap (with_counts c.args.self.now)
    (sym (carry-last plan c.args.way c.loop-line.self.counts (plan_on plan c.args.way).paths c.loop-line.line
    (omega (arith, test, paths))) ∙ inv.left)
