-- Of the next of each kind the one that lands first.
use Rattle.std.proofs.Common.{Some, sym, ◌∙◌, ap, ap₂}
use Rattle.pair_engine.specs.declared.next_items.NextItem.{NextItem}
use Rattle.pair_engine.specs.WayCalls.{due_of_next, found_by}
use Rattle.pair_engine.proofs.FirstDueItemLaws.{pick, first-found, pick-both, pick-frame, pick-command}
use Rattle.pair_engine.proofs.next_items.next_item.Goals as goal

pub returns-in-Some-Some-clause-first : goal.returns-in-Some-Some-clause-first
returns-in-Some-Some-clause-first c order =
    ap (λ (r : NextItem). due_of_next (Some r)) c.sooner.ensures
    ∙ pick-both c.in-Some-Some.frame c.in-Some-Some.command c.in-Some-Some.ensures.client
    c.in-Some-Some.ensures'.client
    ∙ ap₂ pick (ap found_by (sym c.in-Some-Some.is-0) ∙ c.next_of.ensures.found)
    (ap found_by (sym c.in-Some-Some.is-1) ∙ c.next_of-2.ensures.found)
    ∙ sym (first-found c.args.landing.now order)

pub returns-in-Some-None-clause-first : goal.returns-in-Some-None-clause-first
returns-in-Some-None-clause-first c order =
    pick-frame c.in-Some-None.frame c.in-Some-None.ensures.client
    ∙ ap₂ pick (ap found_by (sym c.in-Some-None.is-0) ∙ c.next_of.ensures.found)
    (ap found_by (sym c.in-Some-None.is-1) ∙ c.next_of-2.ensures.found)
    ∙ sym (first-found c.args.landing.now order)

pub returns-in-None-default-clause-first : goal.returns-in-None-default-clause-first
returns-in-None-default-clause-first c order =
    pick-command c.next_of-2.result c.next_of-2.ensures.client
    ∙ ap₂ pick (ap found_by (sym c.in-None-default.is-0) ∙ c.next_of.ensures.found) c.next_of-2.ensures.found
    ∙ sym (first-found c.args.landing.now order)
