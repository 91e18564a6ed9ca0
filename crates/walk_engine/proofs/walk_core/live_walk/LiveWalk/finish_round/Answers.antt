-- Each line, the return path and a row, once.
use Rattle.std.proofs.Common.{length, ◌∙◌, ap, subst, arith}
use Rattle.law_model.specs.Common.{Counts}
use Rattle.walk_engine.specs.Common.{GivesRows, Walking, walking_counts}
use Rattle.walk_engine.proofs.WalkRoundAndTotalsLaws.{back-kept, carry-end, carry-rows, carry-turn, finish-parts}
use Rattle.walk_engine.proofs.LineCarryAndSendRingLaws.{paths-size}
use Rattle.walk_engine.proofs.WayEventAndToldSourceLaws.{is-live, way-stands}
use Rattle.walk_engine.proofs.walk_core.live_walk.LiveWalk.finish_round.Goals as goal

pub lines-line-end-requires : goal.lines-line-end-requires
lines-line-end-requires g c = way-stands _ (is-live _ _ c.self.view_is c.requires)

pub carry-requires-clause-line : goal.carry-requires-clause-line
carry-requires-clause-line g c =
    let (leg, stands) = c.requires in
    let first = stands.stands.lines.size in
    let now = (c.loop-line.invariant.stands leg stands).stands.lines.size in
    let lines = c.lines-line-end.ensures ∙ ap (λ (w : Walking). length w.way.lines) c.self.view_is in
    let test = c.loop-line-test.true in
    omega (arith, first, now, lines, test)

pub carry-requires-clause-stands : goal.carry-requires-clause-stands
carry-requires-clause-stands g c =
    let (leg, stands) = c.requires in (leg, c.loop-line.invariant.stands leg stands)

pub loop-line-preserved : goal.loop-line-preserved
loop-line-preserved g c =
    let inv = c.loop-line.invariant in
    let lines = c.lines-line-end.ensures ∙ ap (λ (w : Walking). length w.way.lines) c.self.view_is in
    let test = c.loop-line-test.true in
    let e = c.carry.ensures in
    let (some, is) = c.requires in
    record {
      stands = λ leg stands. (e.makes leg (inv.stands leg stands)).stands;
      left = λ leg stands.
          let first = stands.stands.lines.size in
          let paths = paths-size leg stands.stands.sound in
          carry-turn leg (walking_counts c.args.self.now) (walking_counts c.loop-line.self) (walking_counts c.carry.new.self)
          c.loop-line.line _ (omega (arith, first, paths, lines, test)) (inv.left leg stands)
          (e.makes leg (inv.stands leg stands)).counts;
      rows = ap (λ (s : Counts). s.rows) (e.makes some (inv.stands some is)).counts
          ∙ carry-rows some (walking_counts c.loop-line.self) c.loop-line.line ∙ inv.rows;
      landed = e.landed ∙ inv.landed;
      windows = e.windows ∙ inv.windows;
    }

pub back-requires : goal.back-requires
back-requires g c = let (leg, stands) = c.requires in (leg, c.loop-line.invariant.stands leg stands)

pub take-requires : goal.take-requires
take-requires g c =
    let (leg, stands) = c.requires in (leg, (c.back.ensures.makes leg (c.loop-line.invariant.stands leg stands)).stands)

pub returns : goal.returns
returns g c =
    let inv = c.loop-line.invariant in
    record {
      finishes = λ leg stands.
          let lines = c.lines-line-end.ensures ∙ ap (λ (w : Walking). length w.way.lines) c.self.view_is in
          let test = c.loop-line-test.false in
          let first = stands.stands.lines.size in
          let paths = paths-size leg stands.stands.sound in
          let backs = c.back.ensures.makes leg (inv.stands leg stands) in
          let takes = c.take.ensures.makes leg backs.stands in
          record {
            stands = takes.stands;
            counts = finish-parts leg (walking_counts c.args.self.now) (walking_counts c.loop-line.self)
                (walking_counts c.back.new.self)
                (walking_counts c.take.new.self)
                (carry-end leg (walking_counts c.args.self.now) (walking_counts c.loop-line.self) c.loop-line.line _
                (omega (arith, first, paths, lines, test)) (inv.left leg stands))
                backs.counts takes.counts;
          };
      landed = c.take.ensures.landed ∙ c.back.ensures.landed ∙ c.loop-line.invariant.landed;
      windows = c.take.ensures.windows ∙ c.back.ensures.windows ∙ c.loop-line.invariant.windows;
      gives = λ leg stands.
          let backs = c.back.ensures.makes leg (inv.stands leg stands) in
          subst (λ n. GivesRows g.F.FrameOut.stands_for c.args.out.now c.take.new.out leg n (walking_counts c.take.new.self).rows)
          (back-kept leg (walking_counts c.loop-line.self) (walking_counts c.back.new.self) backs.counts ∙ inv.rows)
          (c.take.ensures.gives leg backs.stands);
    }
