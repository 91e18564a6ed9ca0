-- None is in ADD, the first in ADD hasn't FAIL, no later one has OK, or one is put before it.
use Rattle.std.proofs.Common.{position, Some, None, sym, ◌∙◌, ap, arith, insert, remove}
use Rattle.law_model.specs.declared.lcas_states.Standing.TheVariants.{Add as adding}
use Rattle.law_model.specs.Common.{is_adding, kept_in}
use Rattle.terminal_source.proofs.MemberOrderExchangeLaws.{finds, finds-no_fail, finds-no_later, finds-later}
use Rattle.terminal_source.proofs.lcas_source.member_table.exchange.Goals as goal

pub returns-in_default-clause-none : goal.returns-in_default-clause-none
returns-in_default-clause-none c =
    finds (kept_in c.args.statuses.now) c.args.members.now.items None
    (ap (position is_adding) (sym c.deref.ensures.0) ∙ sym c.first_adding.ensures ∙ c.in_default.is)

pub returns-then-not-is_fail-clause-none : goal.returns-then-not-is_fail-clause-none
returns-then-not-is_fail-clause-none c =
    let kept = kept_in c.args.statuses.now in
    let order = c.args.members.now.items in
    let first = finds kept order (Some c.in-Some.first)
    (ap (position is_adding) (sym c.deref.ensures.0) ∙ sym c.first_adding.ensures ∙ c.in-Some.is) in
    finds-no_fail kept order c.in-Some.first (record { line = 0; standing = adding }) first
    (sym c.is_fail.ensures ∙ c.if-not-is_fail.true)

pub returns-in_default-first_confirmed-clause-none :
    goal.returns-in_default-first_confirmed-clause-none
returns-in_default-first_confirmed-clause-none c =
    let kept = kept_in c.args.statuses.now in
    let order = c.args.members.now.items in
    let first = finds kept order (Some c.in-Some.first)
    (ap (position is_adding) (sym c.deref.ensures.0) ∙ sym c.first_adding.ensures ∙ c.in-Some.is) in
    finds-no_later kept order c.in-Some.first (record { line = 0; standing = adding }) first
    (sym c.is_fail.ensures ∙ c.if-not-is_fail.false)
    (rw (sym c.deref-2.ensures.0) c.in_default-first_confirmed.ensures.none)

pub returns-clause-made : goal.returns-clause-made
returns-clause-made c =
    let kept = kept_in c.args.statuses.now in
    let order = c.args.members.now.items in
    let first = finds kept order (Some c.in-Some.first)
    (ap (position is_adding) (sym c.deref.ensures.0) ∙ sym c.first_adding.ensures ∙ c.in-Some.is) in
    finds-later kept order c.in-Some.first c.in-Some-first_confirmed.later c.remove-member.result first
    (sym c.is_fail.ensures ∙ c.if-not-is_fail.false)
    (omega (arith, c.in-Some-first_confirmed.ensures.within.0))
    (let inside = rw c.deref-2.ensures.0 at c.in-Some-first_confirmed.ensures.within.1 in inside)
    (let found = c.in-Some-first_confirmed.ensures.found c.remove-member.result in rw c.deref-2.ensures.0 at found)
    ∙ ap Some
    (ap (λ member. insert (remove order c.in-Some-first_confirmed.later) c.in-Some.first member)
    (sym c.remove-member.ensures.value)
    ∙ ap (λ others. insert others c.in-Some.first c.remove-member.result) (sym c.remove-member.ensures.items)
    ∙ sym c.insert.ensures.items)
