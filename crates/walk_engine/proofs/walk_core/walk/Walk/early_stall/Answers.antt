-- All frames are made, or an item is held, or neither.
use Rattle.std.proofs.Common.{◌≡◌, Some, None, sym, ◌∙◌, subst, arith}
use Rattle.law_model.specs.Common.{leg_of}
use Rattle.law_model.specs.declared.walk_events.StallCause.TheVariants.{Done, Held}
use Rattle.law_walk.specs.Common.{walk_plan}
use Rattle.walk_engine.specs.Common.{Walked, early_cause, walking_counts}
use Rattle.walk_engine.proofs.LandedItemSteps.{held-known}
use Rattle.walk_engine.proofs.TickAndFullRingLaws.{early-done, early-held}
use Rattle.walk_engine.proofs.walk_core.walk.Walk.early_stall.Goals as goal

pub returns-then-ticks-self : goal.returns-then-ticks-self
returns-then-ticks-self c =
    let f = c.self.inside in
    let past = c.if-ticks-self.true in
    let at = c.ticks-ticks.ensures in
    subst (λ (w : Walked). Some Done ≡ early_cause (walk_plan (leg_of w.script)) w.counts) c.self.view_is
    (early-done (walk_plan (leg_of f.script)) (walking_counts f.live) (omega (arith, past, at)))

pub returns-in-Some : goal.returns-in-Some
returns-in-Some c =
    let f = c.self.inside in
    let left = c.if-ticks-self.false in
    let at = c.ticks-ticks.ensures in
    let is = c.self.invariant.1 in
    subst (λ (w : Walked). Some (Held c.in-Some.item) ≡ early_cause (walk_plan (leg_of w.script)) w.counts)
    c.self.view_is
    (early-held (walk_plan (leg_of f.script)) (walking_counts f.live) (omega (arith, left, at)) (Some c.in-Some.item)
    (sym c.in-Some.is ∙ c.held.ensures
    ∙ held-known (leg_of f.script) f.live.way.source.inbox.come f.live.way is.stands.stands f.landing is.landed
    c.ticks-ticks.result at))

pub returns-in-None : goal.returns-in-None
returns-in-None c =
    let f = c.self.inside in
    let left = c.if-ticks-self.false in
    let at = c.ticks-ticks.ensures in
    let is = c.self.invariant.1 in
    subst (λ (w : Walked). None ≡ early_cause (walk_plan (leg_of w.script)) w.counts) c.self.view_is
    (early-held (walk_plan (leg_of f.script)) (walking_counts f.live) (omega (arith, left, at)) None
    (sym c.in-None.is ∙ c.held.ensures
    ∙ held-known (leg_of f.script) f.live.way.source.inbox.come f.live.way is.stands.stands f.landing is.landed
    c.ticks-ticks.result at))
