-- A tick is made, or stalls.
use Rattle.std.proofs.Common.{refl, sym, ◌∙◌, ap, arith}
use Rattle.law_model.specs.Common.{leg_of}
use Rattle.law_model.specs.declared.walk_events.Event.TheVariants.{Tick}
use Rattle.law_walk.specs.Common.{walk_plan}
use Rattle.walk_engine.specs.Common.{Walked, counts_after, early_cause, walking_counts, moved_of}
use Rattle.walk_engine.proofs.TickAndFullRingLaws.{early-free, early-stalls, tick-stays}
use Rattle.walk_engine.proofs.WayEventAndToldSourceLaws.{walk-moved}
use Rattle.walk_engine.proofs.walk_core.walk.Walk.tick.Goals as goal

pub returns-in-Some : goal.returns-in-Some
returns-in-Some c =
    let f = c.self.inside in
    let now = c.args.self.now in
    let stays = tick-stays (leg_of now.script) now.counts c.in-Some.cause
    (sym (early-stalls (walk_plan (leg_of now.script)) now.counts c.in-Some.cause
    (sym c.early_stall.ensures ∙ c.in-Some.is))) in
    record { script = refl; counts = stays.0; moved = stays.1 }

pub tick-requires-clause-stands : goal.tick-requires-clause-stands
tick-requires-clause-stands c = (leg_of c.self.inside.script, c.self.invariant.1.stands)

pub tick-requires-clause-left : goal.tick-requires-clause-left
tick-requires-clause-left c =
    let f = c.self.inside in
    let free = sym (c.early_stall.ensures
    ∙ ap (λ (w : Walked). early_cause (walk_plan (leg_of w.script)) w.counts) (sym c.self.view_is)) ∙ c.in-None.is in
    let low = (early-free (walk_plan (leg_of f.script)) (walking_counts f.live) free).0 in
    let total = c.self.invariant.1.stands.stands.total in
    omega (arith, low, total)

pub invariant_of-self : goal.invariant_of-self
invariant_of-self c =
    let f = c.self.inside in
    let free = sym (c.early_stall.ensures
    ∙ ap (λ (w : Walked). early_cause (walk_plan (leg_of w.script)) w.counts) (sym c.self.view_is)) ∙ c.in-None.is in
    let none = (early-free (walk_plan (leg_of f.script)) (walking_counts f.live) free).1 in
    let e = c.tick.ensures in (
      c.self.invariant.0,
      walk-moved (leg_of f.script) f.live c.tick.new.self f.landing c.self.invariant.1
          (e.makes (leg_of f.script) c.self.invariant.1.stands none
          (c.self.invariant.1.known f.live.way.source.core.ticks)).stands e.landed e.windows,
    )

pub returns-in-None : goal.returns-in-None
returns-in-None c =
    let f = c.self.inside in
    let free = sym (c.early_stall.ensures
    ∙ ap (λ (w : Walked). early_cause (walk_plan (leg_of w.script)) w.counts) (sym c.self.view_is)) ∙ c.in-None.is in
    let none = (early-free (walk_plan (leg_of f.script)) (walking_counts f.live) free).1 in
    let makes = c.tick.ensures.makes (leg_of f.script) c.self.invariant.1.stands none
    (c.self.invariant.1.known f.live.way.source.core.ticks) in
    record {
      script = ap (λ (w : Walked). w.script) c.self.view_is;
      counts = makes.counts ∙ ap (λ (w : Walked). counts_after (leg_of w.script) w.counts Tick) c.self.view_is;
      moved = makes.moved ∙ ap (λ (w : Walked). moved_of (leg_of w.script) w.counts Tick) c.self.view_is;
    }
