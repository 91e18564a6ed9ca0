-- The first cause of a stall of a tick, where ticks are left and nothing is held.
use Rattle.std.proofs.Common.{◌≡◌, ◌<◌, Some, None, sym, ◌∙◌, ap, subst}
use Rattle.law_model.specs.Common.{step}
use Rattle.law_model.specs.declared.walk_events.Event.TheVariants.{Tick}
use Rattle.law_model.specs.declared.walk_events.StallCause.TheVariants.{TxFull, BackMissing}
use Rattle.law_walk.specs.Common.{walk_plan}
use Rattle.terminal_group.specs.SourceByCounts.{missing_from}
use Rattle.walk_engine.specs.Common.{IsNoneHeld, Walking, LiveStands, counts_of, walking_counts}
use Rattle.walk_engine.proofs.TickAndFullRingLaws.{full-cause, missing-stalls, none-missing, ticks-left}
use Rattle.walk_engine.proofs.WayEventAndToldSourceLaws.{is-live, way-stands}
use Rattle.walk_engine.proofs.walk_core.live_walk.LiveWalk.tick_stall.Goals as goal

pub first_full-requires : goal.first_full-requires
first_full-requires c = way-stands _ (is-live _ _ c.self.view_is c.requires.stands)

pub returns-in-Some-clause-cause : goal.returns-in-Some-clause-cause
returns-in-Some-clause-cause c leg stands none =
    let f = c.self.inside in
    let come = f.way.source.inbox.come in
    let is = subst (LiveStands leg) (sym c.self.view_is) stands in
    let free = subst (λ (w : Walking). IsNoneHeld leg (walking_counts w)) (sym c.self.view_is) none in
    let low = subst (λ (w : Walking). w.way.source.core.ticks < w.way.source.total) (sym c.self.view_is)
    c.requires.left in
    subst (λ (w : Walking). Some (TxFull c.in-Some.line) ≡ (step (walk_plan leg) (walking_counts w) Tick).cause)
    c.self.view_is
    (full-cause (walk_plan leg) (counts_of f.way come) (ticks-left leg come f.way is.stands low) free c.in-Some.line
    (sym (c.first_full.ensures leg come is.stands) ∙ c.in-Some.is))

pub returns-in-Some-missing-clause-cause : goal.returns-in-Some-missing-clause-cause
returns-in-Some-missing-clause-cause c leg stands none =
    let f = c.self.inside in
    let come = f.way.source.inbox.come in
    let is = subst (LiveStands leg) (sym c.self.view_is) stands in
    let free = subst (λ (w : Walking). IsNoneHeld leg (walking_counts w)) (sym c.self.view_is) none in
    let low = subst (λ (w : Walking). w.way.source.core.ticks < w.way.source.total) (sym c.self.view_is)
    c.requires.left in
    let slots = sym (c.first_full.ensures leg come is.stands) ∙ c.in_default.is in
    subst (λ (w : Walking). Some (BackMissing c.in-Some-missing.packet)
    ≡ (step (walk_plan leg) (walking_counts w) Tick).cause) c.self.view_is
    (missing-stalls leg f.way f.ring f.last is (ticks-left leg come f.way is.stands low) free slots
    c.in-Some-missing.packet (sym (rw c.source.ensures at c.missing.ensures) ∙ c.in-Some-missing.is))

pub returns-in-None-clause-cause : goal.returns-in-None-clause-cause
returns-in-None-clause-cause c leg stands none =
    let f = c.self.inside in
    let come = f.way.source.inbox.come in
    let is = subst (LiveStands leg) (sym c.self.view_is) stands in
    let free = subst (λ (w : Walking). IsNoneHeld leg (walking_counts w)) (sym c.self.view_is) none in
    let low = subst (λ (w : Walking). w.way.source.core.ticks < w.way.source.total) (sym c.self.view_is)
    c.requires.left in
    let slots = sym (c.first_full.ensures leg come is.stands) ∙ c.in_default.is in
    subst (λ (w : Walking). None ≡ (step (walk_plan leg) (walking_counts w) Tick).cause) c.self.view_is
    (none-missing leg f.way f.ring f.last is (ticks-left leg come f.way is.stands low) free slots
    (sym (rw c.source.ensures at c.missing.ensures) ∙ c.in-None.is))

pub returns-in-None-clause-cell : goal.returns-in-None-clause-cell
returns-in-None-clause-cell c none =
    ap (λ (w : Walking). missing_from w.way.source) (sym c.self.view_is)
    ∙ sym (rw c.source.ensures at c.missing.ensures) ∙ c.in-None.is
