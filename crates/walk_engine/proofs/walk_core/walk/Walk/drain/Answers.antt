-- A round more, or all rows are taken.
use Rattle.std.proofs.Common.{refl, ◌∙◌, subst, arith}
use Rattle.law_model.specs.Common.{Counts, leg_of}
use Rattle.law_model.specs.declared.script_types.Script.{Script}
use Rattle.walk_engine.specs.Common.{GivesRows}
use Rattle.walk_engine.proofs.WalkRoundAndTotalsLaws.{script-turn, script-end, gives-none, gives-then}
use Rattle.walk_engine.proofs.walk_core.walk.Walk.drain.Goals as goal

pub loop-self-init : goal.loop-self-init
loop-self-init g c = record {
  script = refl;
  left = refl;
  rises = omega arith;
  gives = gives-none g.F.FrameOut.stands_for c.args.out.now (leg_of c.args.self.now.script) _ _ refl;
}

pub loop-self-smaller : goal.loop-self-smaller
loop-self-smaller g c =
    let is = c.self.invariant in
    let taken = rw (c.sink.ensures, c.way.ensures.way) at c.taken.ensures in
    let test = c.loop-self-test.true in
    (script-turn _ _ c.self.view_is _ c.loop-self.invariant.script is.0.sound is.1.stands.stands.walked
    (omega (arith, test, taken)) _ c.round.ensures.counts).0.0

pub loop-self-preserved : goal.loop-self-preserved
loop-self-preserved g c =
    let inv = c.loop-self.invariant in
    let is = c.self.invariant in
    let taken = rw (c.sink.ensures, c.way.ensures.way) at c.taken.ensures in
    let test = c.loop-self-test.true in
    let turn = script-turn _ _ c.self.view_is _ inv.script is.0.sound is.1.stands.stands.walked
    (omega (arith, test, taken)) _ c.round.ensures.counts in
    let s : Counts = c.loop-self.self.counts in
    let next : Counts = c.round.new.self.counts in
    let rises = inv.rises in
    let more = turn.1 in
    record {
      script = c.round.ensures.script ∙ inv.script;
      left = turn.0.1 ∙ inv.left;
      rises = omega (arith, rises, more);
      gives = gives-then g.F.FrameOut.stands_for c.args.out.now c.loop-self.out c.round.new.out
          (leg_of c.args.self.now.script) c.args.self.now.counts.rows s.rows next.rows rises more inv.gives
          (subst (λ (x : Script). GivesRows g.F.FrameOut.stands_for c.loop-self.out c.round.new.out
          (leg_of x) s.rows next.rows)
          inv.script c.round.ensures.gives);
    }

pub returns : goal.returns
returns g c =
    let inv = c.loop-self.invariant in
    let is = c.self.invariant in
    let taken = rw (c.sink.ensures, c.way.ensures.way) at c.taken.ensures in
    let test = c.loop-self-test.false in
    let end = script-end _ _ c.self.view_is _ inv.script is.0.sound is.1.stands.stands.walked (omega (arith, test, taken)) _
    inv.left in
    record {
      script = inv.script;
      counts = end.0;
      all = end.1;
      gives = subst (GivesRows g.F.FrameOut.stands_for c.args.out.now c.loop-self.out (leg_of c.args.self.now.script)
          c.args.self.now.counts.rows) end.1 inv.gives;
    }
