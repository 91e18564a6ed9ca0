-- A tick is made, or stalls.
use Rattle.std.proofs.Common.{◌/◌, ◌%◌, ◌==◌, ◌<◌, if◌then◌else◌, Some, sym, ◌∙◌, ap, subst}
use Rattle.law_model.specs.Common.{step}
use Rattle.law_model.specs.declared.walk_events.Event.TheVariants.{Tick}
use Rattle.law_walk.specs.Common.{walk_plan}
use Rattle.terminal_group.specs.SourceByCounts.{missing_from}
use Rattle.terminal_group.specs.ReturnInbox.{Inbox}
use Rattle.walk_engine.specs.Common.{AgreesNow, Walking, LiveStands, Parts, counts_of, walking_counts, windows_in}
use Rattle.walk_engine.proofs.TickAndFullRingLaws.{tick-stays, can-tick, tick-live}
use Rattle.walk_engine.proofs.WayEventAndToldSourceLaws.{is-live, way-stands, live-from}
use Rattle.walk_engine.proofs.walk_core.live_walk.LiveWalk.tick.Goals as goal

pub returns-in-Some-clause-makes : goal.returns-in-Some-clause-makes
returns-in-Some-clause-makes c leg stands none agrees =
    let stays = tick-stays leg (walking_counts c.args.self.now) c.in-Some.cause
    (sym c.in-Some.is ∙ c.tick_stall.ensures.cause leg stands none) in
    record { stands = stands; counts = stays.0; moved = stays.1 }

pub make-back-requires : goal.make-back-requires
make-back-requires c =
    record {
      stands = way-stands _ (is-live _ _ c.self.view_is c.requires.stands);
      left = subst (λ (w : Walking). w.way.source.core.ticks < w.way.source.total) (sym c.self.view_is) c.requires.left;
      cell = ap (λ (w : Walking). missing_from w.way.source) c.self.view_is ∙ c.tick_stall.ensures.cell c.in_default.is;
    }

pub returns-clause-makes : goal.returns-clause-makes
returns-clause-makes c leg stands none agrees =
    let f = c.self.inside in
    let is = subst (LiveStands leg) (sym c.self.view_is) stands in
    let e = sym c.in_default.is ∙ c.tick_stall.ensures.cause leg stands none
    ∙ ap (λ (w : Walking). (step (walk_plan leg) (walking_counts w) Tick).cause) (sym c.self.view_is) in
    let m = c.make-back.ensures in
    let makes = m.makes leg f.way.source.inbox.come is.stands
    (can-tick leg f.way f.ring f.last is e c.make-back.result m.cell
    (subst (AgreesNow leg) (sym c.self.view_is) agrees)) in
    let noted = c.next_note-self-inside.ensures
    ∙ ap (λ n. if n % 16 == 8 then Some
    (record { packet = n / 16; back = c.make-back.result }) else f.last)
    (rw (c.core.ensures, c.source.ensures) at c.ticks-ticks.ensures) in
    live-from leg _ _ _ _ _ c.self.view_is (record {
      stands = tick-live leg f.way f.ring f.last is e c.make-back.result m.cell c.make-back.new.self makes.stands
          m.ticks m.inbox m.rest c.next_note-self-inside.result noted;
      counts = ap (λ (i : Inbox). counts_of c.make-back.new.self i.come) m.inbox ∙ makes.counts;
      moved = makes.moved;
    })

pub returns-clause-landed : goal.returns-clause-landed
returns-clause-landed c = c.make-back.ensures.landed ∙ ap (λ (w : Walking). w.way.source.landed) c.self.view_is

pub returns-clause-windows : goal.returns-clause-windows
returns-clause-windows c = ap (λ (p : Parts). windows_in p.lines) c.make-back.ensures.rest ∙ ap (λ (w : Walking). windows_in w.way.lines) c.self.view_is
