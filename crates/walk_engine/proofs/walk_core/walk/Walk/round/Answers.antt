-- A round by its parts, of which only the last takes a row.
use Rattle.std.proofs.Common.{rules, suc, ◌∙◌, ap, subst, length, replicate}
use Rattle.law_model.specs.Common.{run, carries_from, leg_of}
use Rattle.law_model.specs.declared.script_types.Script.{Script}
use Rattle.law_model.specs.declared.walk_events.Event.TheVariants.{Tick, Command}
use Rattle.law_walk.specs.Common.{walk_plan}
use Rattle.walk_engine.specs.Common.{GivesRows, Walked, counts_after, walking_counts}
use Rattle.walk_engine.proofs.WalkRoundAndTotalsLaws.{round-parts, tick-kept}
use Rattle.walk_engine.proofs.WayEventAndToldSourceLaws.{walk-moved}
use Rattle.walk_engine.proofs.walk_core.walk.Walk.round.Goals as goal

pub finish_round-requires : goal.finish_round-requires
finish_round-requires g c = (leg_of c.self.inside.script, c.self.invariant.1.stands)

pub invariant_of-self : goal.invariant_of-self
invariant_of-self g c =
    let f = c.self.inside in
    let e = c.finish_round.ensures in (
      c.self.invariant.0,
      walk-moved (leg_of f.script) f.live c.finish_round.new.self f.landing c.self.invariant.1
          (e.finishes (leg_of f.script) c.self.invariant.1.stands).stands e.landed e.windows,
    )

pub returns : goal.returns
returns g c =
    let script : Script = c.args.self.now.script in
    let b_script = c.land_all-2.ensures.script ∙ c.land_all.ensures.script in
    let t_script = c.tick.ensures.script ∙ b_script in
    let b = c.land_all-2.new.self.counts in
    let t = c.tick.new.self.counts in
    let own = leg_of c.self.inside.script in
    record {
      script = ap (λ (w : Walked). w.script) c.self.view_is ∙ t_script;
      counts =
          let a = c.land_all.new.self.counts in
          round-parts (leg_of script) c.args.self.now.counts a b t (walking_counts c.finish_round.new.self)
          c.land_all.ensures.counts
          (c.land_all-2.ensures.counts ∙ ap
          (λ (x : Script). run (walk_plan (leg_of x)) a (replicate (suc (length (walk_plan (leg_of x)).items)) Command))
          c.land_all.ensures.script)
          (c.tick.ensures.counts ∙ ap (λ (x : Script). counts_after (leg_of x) b Tick) b_script)
          ((c.finish_round.ensures.finishes own c.self.invariant.1.stands).counts
          ∙ ap (λ (w : Walked). run (walk_plan (leg_of w.script)) w.counts
          (carries_from 0 (walk_plan (leg_of w.script)).paths)) c.self.view_is
          ∙ ap (λ (x : Script). run (walk_plan (leg_of x)) t (carries_from 0 (walk_plan (leg_of x)).paths)) t_script);
      gives =
          let e = (walking_counts c.finish_round.new.self).rows in
          subst (λ n. GivesRows g.F.FrameOut.stands_for c.args.out.now c.finish_round.new.out (leg_of script) n e)
          (tick-kept (leg_of script) b t
          (c.tick.ensures.counts ∙ ap (λ (x : Script). counts_after (leg_of x) b Tick) b_script)
          ∙ c.land_all-2.ensures.rows ∙ c.land_all.ensures.rows)
          (subst (λ (x : Script). GivesRows g.F.FrameOut.stands_for c.args.out.now c.finish_round.new.out (leg_of x) t.rows e) t_script
          (subst (λ (w : Walked). GivesRows g.F.FrameOut.stands_for c.args.out.now c.finish_round.new.out (leg_of w.script)
          w.counts.rows e) c.self.view_is (c.finish_round.ensures.gives own c.self.invariant.1.stands)));
    }
