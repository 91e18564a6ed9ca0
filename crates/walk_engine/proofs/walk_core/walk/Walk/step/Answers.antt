-- What the walk without its script does, the walk does; and no event but a Take gives frames.
use Rattle.std.proofs.Common.{◌<◌, true, false, length, sym, ◌∙◌, ap, subst, arith}
use Rattle.law_model.specs.Common.{Counts, leg_of}
use Rattle.law_model.specs.declared.walk_events.Event.TheVariants.{Back, Carry, Take}
use Rattle.law_progress.specs.Progress.{HasLine}
use Rattle.law_walk.specs.Common.{walk_plan}
use Rattle.walk_engine.specs.Common.{GivesRows, LiveMakes, Walked, counts_after, moved_of, walking_counts}
use Rattle.walk_engine.proofs.LineCarryAndSendRingLaws.{paths-size}
use Rattle.walk_engine.proofs.WalkRoundAndTotalsLaws.{back-kept, landed-rows, carry-rows, gives-none}
use Rattle.walk_engine.proofs.WayEventAndToldSourceLaws.{walk-moved}
use Rattle.walk_engine.proofs.walk_core.walk.Walk.step.Goals as goal

pub returns-in-Accept-clause-gives : goal.returns-in-Accept-clause-gives
returns-in-Accept-clause-gives g c =
    gives-none g.F.FrameOut.stands_for c.args.out.now (leg_of c.args.self.now.script) _ _
    (ap (λ (s : Counts). s.rows) c.land.ensures.counts
    ∙ landed-rows true (leg_of c.args.self.now.script) c.args.self.now.counts)

pub returns-in-Command-clause-gives : goal.returns-in-Command-clause-gives
returns-in-Command-clause-gives g c =
    gives-none g.F.FrameOut.stands_for c.args.out.now (leg_of c.args.self.now.script) _ _
    (ap (λ (s : Counts). s.rows) c.land-in-Command.ensures.counts
    ∙ landed-rows false (leg_of c.args.self.now.script) c.args.self.now.counts)

pub carry-requires-clause-line : goal.carry-requires-clause-line
carry-requires-clause-line g c =
    let leg = leg_of c.self.inside.script in
    let is = c.self.invariant.1.stands.stands in
    let has : c.in-Carry.line < length (walk_plan leg).paths =
    subst (λ (w : Walked). HasLine (walk_plan (leg_of w.script)) (Carry c.in-Carry.line)) (sym c.self.view_is)
    (subst (HasLine (walk_plan (leg_of c.args.self.now.script))) c.in-Carry.is c.requires) in
    omega (arith, has, paths-size leg is.sound, is.lines.size)

pub carry-requires-clause-stands : goal.carry-requires-clause-stands
carry-requires-clause-stands g c = (leg_of c.self.inside.script, c.self.invariant.1.stands)

pub invariant_of-self : goal.invariant_of-self
invariant_of-self g c =
    let f = c.self.inside in
    let e = c.carry.ensures in (
      c.self.invariant.0,
      walk-moved (leg_of f.script) f.live c.carry.new.self f.landing c.self.invariant.1
          (e.makes (leg_of f.script) c.self.invariant.1.stands).stands e.landed e.windows,
    )

pub returns-in-Carry : goal.returns-in-Carry
returns-in-Carry g c =
    let leg = leg_of c.self.inside.script in
    let line = c.in-Carry.line in
    let made = c.carry.ensures.makes leg c.self.invariant.1.stands in
    let makes = subst (λ event. LiveMakes leg event c.self.inside.live c.carry.new.self c.carry.result)
    (sym c.in-Carry.is) made in
    record {
      script = ap (λ (w : Walked). w.script) c.self.view_is;
      counts = makes.counts ∙ ap (λ (w : Walked). counts_after (leg_of w.script) w.counts c.args.event) c.self.view_is;
      moved = makes.moved ∙ ap (λ (w : Walked). moved_of (leg_of w.script) w.counts c.args.event) c.self.view_is;
      gives = gives-none g.F.FrameOut.stands_for c.args.out.now (leg_of c.args.self.now.script) _ _
          (ap (λ (s : Counts). s.rows) made.counts ∙ carry-rows leg (walking_counts c.self.inside.live) line
          ∙ ap (λ (w : Walked). w.counts.rows) c.self.view_is);
    }

pub back-requires : goal.back-requires
back-requires g c = (leg_of c.self-in-Back.inside.script, c.self-in-Back.invariant.1.stands)

pub invariant_of-self-in-Back : goal.invariant_of-self-in-Back
invariant_of-self-in-Back g c =
    let f = c.self-in-Back.inside in
    let e = c.back.ensures in (
      c.self-in-Back.invariant.0,
      walk-moved (leg_of f.script) f.live c.back.new.self f.landing c.self-in-Back.invariant.1
          (e.makes (leg_of f.script) c.self-in-Back.invariant.1.stands).stands e.landed e.windows,
    )

pub returns-in-Back : goal.returns-in-Back
returns-in-Back g c =
    let leg = leg_of c.self-in-Back.inside.script in
    let made = c.back.ensures.makes leg c.self-in-Back.invariant.1.stands in
    let makes = subst (λ event. LiveMakes leg event c.self-in-Back.inside.live c.back.new.self c.back.result)
    (sym c.in-Back.is) made in
    record {
      script = ap (λ (w : Walked). w.script) c.self-in-Back.view_is;
      counts = makes.counts ∙ ap (λ (w : Walked). counts_after (leg_of w.script) w.counts c.args.event) c.self-in-Back.view_is;
      moved = makes.moved ∙ ap (λ (w : Walked). moved_of (leg_of w.script) w.counts c.args.event) c.self-in-Back.view_is;
      gives = gives-none g.F.FrameOut.stands_for c.args.out.now (leg_of c.args.self.now.script) _ _
          (back-kept leg (walking_counts c.self-in-Back.inside.live) (walking_counts c.back.new.self) made.counts
          ∙ ap (λ (w : Walked). w.counts.rows) c.self-in-Back.view_is);
    }

pub take-requires : goal.take-requires
take-requires g c = (leg_of c.self-in-Take.inside.script, c.self-in-Take.invariant.1.stands)

pub invariant_of-self-in-Take : goal.invariant_of-self-in-Take
invariant_of-self-in-Take g c =
    let f = c.self-in-Take.inside in
    let e = c.take.ensures in (
      c.self-in-Take.invariant.0,
      walk-moved (leg_of f.script) f.live c.take.new.self f.landing c.self-in-Take.invariant.1
          (e.makes (leg_of f.script) c.self-in-Take.invariant.1.stands).stands e.landed e.windows,
    )

pub returns-in-Take : goal.returns-in-Take
returns-in-Take g c =
    let leg = leg_of c.self-in-Take.inside.script in
    let made = c.take.ensures.makes leg c.self-in-Take.invariant.1.stands in
    let makes = subst (λ event. LiveMakes leg event c.self-in-Take.inside.live c.take.new.self c.take.result)
    (sym c.in-Take.is) made in
    record {
      script = ap (λ (w : Walked). w.script) c.self-in-Take.view_is;
      counts = makes.counts ∙ ap (λ (w : Walked). counts_after (leg_of w.script) w.counts c.args.event) c.self-in-Take.view_is;
      moved = makes.moved ∙ ap (λ (w : Walked). moved_of (leg_of w.script) w.counts c.args.event) c.self-in-Take.view_is;
      gives = subst (λ (w : Walked). GivesRows g.F.FrameOut.stands_for c.args.out.now c.take.new.out (leg_of w.script)
          w.counts.rows (walking_counts c.take.new.self).rows) c.self-in-Take.view_is
          (c.take.ensures.gives leg c.self-in-Take.invariant.1.stands);
    }
