-- One line more.
use Rattle.std.proofs.Common.{◌+◌, drop, refl, sym, ◌∙◌, ap, arith}
use Rattle.law_pair.specs.Common.{PairCounts, PairPlan, carries_on, pair_plan, pair_run, plan_on}
use Rattle.pair_engine.specs.LivePairs.{walking_counts}
use Rattle.pair_engine.proofs.LivePairLaws.{lines-on}
use Rattle.pair_engine.proofs.PairEventAndRoundLaws.{carry-next, carry-last}
use Rattle.pair_engine.proofs.live_pair.LivePair.carry_all.Goals as goal

pub loop-line-init : goal.loop-line-init
loop-line-init c = record {
  lives = λ one other lives. lives;
  left = λ one other lives. refl;
  rows = record { there = refl; back = refl };
  windows = λ way. refl;
}

pub carry-requires : goal.carry-requires
carry-requires c =
    let (one, other, lives) = c.requires in
    let inv = c.loop-line.invariant in
    let test = c.loop-line-test.true in
    let lines = c.lines-line-end.ensures in
    let first = lines-on one other c.args.self.now c.args.way lives in
    let now = lines-on one other c.loop-line.self c.args.way (inv.lives one other lives) in
    record { line = omega (arith, test, lines, first, now); lives = (one, other, inv.lives one other lives) }

pub loop-line-preserved : goal.loop-line-preserved
loop-line-preserved c =
    let inv = c.loop-line.invariant in
    let test = c.loop-line-test.true in
    let lines = c.lines-line-end.ensures in
    let line = c.loop-line.line in
    let e = c.carry.ensures in
    record {
      lives = λ one other lives. (e.carries one other (inv.lives one other lives)).lives;
      left = λ one other lives.
          let plan : PairPlan = pair_plan one other in
          let paths = lines-on one other c.args.self.now c.args.way lives in
          ap (λ (s : PairCounts). pair_run plan s
          (carries_on c.args.way (line + 1) (drop (line + 1) (plan_on plan c.args.way).paths)))
          (e.carries one other (inv.lives one other lives)).counts
          ∙ sym (carry-next plan c.args.way (walking_counts c.loop-line.self) (plan_on plan c.args.way).paths line
          (omega (arith, test, lines, paths)))
          ∙ inv.left one other lives;
      rows = record { there = e.rows.there ∙ inv.rows.there; back = e.rows.back ∙ inv.rows.back };
      windows = λ way. e.windows way ∙ inv.windows way;
    }

pub returns : goal.returns
returns c =
    let inv = c.loop-line.invariant in
    let test = c.loop-line-test.false in
    let lines = c.lines-line-end.ensures in
    record {
      carries = λ one other lives.
          let plan : PairPlan = pair_plan one other in
          let paths = lines-on one other c.args.self.now c.args.way lives in
          record {
            lives = inv.lives one other lives;
            counts = sym (carry-last plan c.args.way (walking_counts c.loop-line.self) (plan_on plan c.args.way).paths
                c.loop-line.line (omega (arith, test, lines, paths))) ∙ inv.left one other lives;
          };
      rows = inv.rows;
      windows = inv.windows;
    }
