-- The next item of a kind lands, or stalls.
use Rattle.std.proofs.Common.{◌≡◌, slice_get, Some, None, refl, sym, ◌∙◌, ap, subst, arith, is_some}
use Rattle.law_model.specs.Common.{leg_of}
use Rattle.law_model.specs.declared.script_types.Item.{Item}
use Rattle.law_model.specs.declared.walk_events.StallCause.TheVariants.{NotDue, Done as Stall_done}
use Rattle.law_walk.specs.Common.{is_client}
use Rattle.terminal_group.specs.Item.{kind_of}
use Rattle.terminal_group.specs.Landed.{HasPassed, next_number}
use Rattle.walk_engine.specs.Common.{HasLanded, IsDue, LiveMakes, Walked, answer_by, counts_after, landing_of}
use Rattle.walk_engine.specs.Common.{AgreesAt, walking_counts, moved_of}
use Rattle.walk_engine.specs.declared.walk_core.step_answers.Moved.TheVariants.{Stalled}
use Rattle.walk_engine.proofs.LandedItemSteps.{land-none, land-early, land-stays-landed as land-stays, land-kind, due-in}
use Rattle.walk_engine.proofs.LandedItemSteps.{land-known, land-reason}
use Rattle.walk_engine.proofs.walk_core.walk.Walk.land.Goals as goal
use Rattle.walk_engine.proofs.walk_core.walk.Walk.land.Goals.{After-say-why}

pub due-due-requires : goal.due-due-requires
due-due-requires c = sym c.next.ensures ∙ c.in-Some.is

pub land-requires-clause-next : goal.land-requires-clause-next
land-requires-clause-next c = sym c.next.ensures ∙ c.in-Some.is

pub returns-in_default : goal.returns-in_default
returns-in_default c =
    let f = c.self.inside in
    let leg = leg_of f.script in
    let come = f.live.way.source.inbox.come in
    let is = c.self.invariant.1 in
    let stays = land-stays leg come f.live.way is.stands.stands f.landing is.landed c.args.client Stall_done
    (land-none leg come f.live.way is.stands.stands f.landing is.landed c.args.client
    (sym c.next.ensures ∙ c.in_default.is)) in
    record {
      script = refl;
      counts = subst (λ (w : Walked). w.counts ≡ counts_after (leg_of w.script) w.counts (landing_of c.args.client))
          c.self.view_is stays.0;
      moved = subst (λ (w : Walked). Stalled Stall_done
          ≡ moved_of (leg_of w.script) w.counts (landing_of c.args.client))
          c.self.view_is stays.1;
    }

pub returns-then-ticks-due : goal.returns-then-ticks-due
returns-then-ticks-due c =
    let f = c.self.inside in
    let leg = leg_of f.script in
    let come = f.live.way.source.inbox.come in
    let is = c.self.invariant.1 in
    let low = c.if-ticks-due.true in
    let cause = NotDue c.due-due.result in
    let stays = land-stays leg come f.live.way is.stands.stands f.landing is.landed c.args.client cause
    (land-early leg come f.live.way is.stands.stands f.landing is.landed c.args.client c.in-Some.number c.ticks.result
    c.due-due.result (sym c.next.ensures ∙ c.in-Some.is) c.ticks.ensures c.due-due.ensures (omega (arith, low))) in
    record {
      script = refl;
      counts = subst (λ (w : Walked). w.counts ≡ counts_after (leg_of w.script) w.counts (landing_of c.args.client))
          c.self.view_is stays.0;
      moved = subst (λ (w : Walked). Stalled cause ≡ moved_of (leg_of w.script) w.counts (landing_of c.args.client))
          c.self.view_is stays.1;
    }

-- the item is due, is of the kind that lands, and so the walk goes on
record IsSaid (c : After-say-why) : Type 0 where
  kind : is_client (kind_of c.lent_item.result) ≡ c.args.client
  due : IsDue (leg_of c.self.inside.script) (walking_counts c.self.inside.live) (kind_of c.lent_item.result)
  makes : LiveMakes (leg_of c.self.inside.script) (landing_of c.args.client) c.self.inside.live c.say-why.new.self
      (answer_by None c.say-why.result)

said : (c : After-say-why) → IsSaid c
said c =
    let f = c.self.inside in
    let leg = leg_of f.script in
    let come = f.live.way.source.inbox.come in
    let is = c.self.invariant.1 in
    let next = sym c.next.ensures ∙ c.in-Some.is in
    let low = c.if-ticks-due.false in
    let late = c.due-due.ensures in
    let ticks = c.ticks.ensures in
    let lends : (item : Item) → slice_get f.script.items c.in-Some.number ≡ Some item →
    kind_of c.lent_item.result ≡ item.kind = λ item at. c.lent_item.ensures ∙ c.lend-lent.ensures item at in
    let kind = land-kind leg come f.live.way is.stands.stands f.landing is.landed c.args.client c.in-Some.number
    (kind_of c.lent_item.result) next lends in
    let due = due-in leg come f.live.way is.stands.stands f.landing is.landed c.args.client c.in-Some.number
    (kind_of c.lent_item.result) next lends (omega (arith, low, late, ticks)) in
    record {
      kind = kind;
      due = due;
      makes = subst (λ client. LiveMakes leg (landing_of client) f.live c.say-why.new.self
          (answer_by None c.say-why.result)) kind (c.say-why.ensures.makes leg is.stands due);
    }

pub land-requires-clause-reason : goal.land-requires-clause-reason
land-requires-clause-reason c =
    let f = c.self.inside in
    let leg = leg_of f.script in
    let is = c.self.invariant.1 in
    let here = said (goal.at.land-requires-clause-reason c).After-say-why in
    land-reason leg f.live.way.source.inbox.come f.live.way is.stands.stands f.landing is.landed c.in-Some.number
    (kind_of c.lent_item.result) c.say-why.result here.due (c.say-why.ensures.refusal leg is.stands here.due)
    (λ item at. c.lent_item.ensures ∙ c.lend-lent.ensures item at)

pub invariant_of-self : goal.invariant_of-self
invariant_of-self c =
    let f = c.self.inside in
    let leg = leg_of f.script in
    let come = f.live.way.source.inbox.come in
    let is = c.self.invariant.1 in
    let here = said (goal.at.invariant_of-self c).After-say-why in
    let next = ap (next_number f.landing) here.kind ∙ sym c.next.ensures ∙ c.in-Some.is in
    let known = land-known leg come f.live.way is.stands.stands f.landing is.landed c.land.new.self c.in-Some.number
    (kind_of c.lent_item.result) c.say-why.result here.due next (c.say-why.ensures.refusal leg is.stands here.due)
    (subst (λ client. HasPassed f.landing c.land.new.self client (is_some c.say-why.result)) (sym here.kind)
    c.land.ensures.passed) c.land.ensures.refusals in (
      c.self.invariant.0,
      record {
        stands = here.makes.stands;
        known = λ t. subst (AgreesAt leg t) (sym c.say-why.ensures.windows) (is.known t);
        landed = subst (λ s. HasLanded leg s c.land.new.self) (sym here.makes.counts)
            (subst (λ client. HasLanded leg (counts_after leg (walking_counts f.live) (landing_of client))
            c.land.new.self) here.kind known);
      },
    )

pub returns : goal.returns
returns c =
    let here = said (goal.at.returns c).After-say-why in
    record {
      script = ap (λ (w : Walked). w.script) c.self.view_is;
      counts = here.makes.counts
          ∙ ap (λ (w : Walked). counts_after (leg_of w.script) w.counts (landing_of c.args.client)) c.self.view_is;
      moved = c.landed.ensures ∙ here.makes.moved
          ∙ ap (λ (w : Walked). moved_of (leg_of w.script) w.counts (landing_of c.args.client)) c.self.view_is;
    }
