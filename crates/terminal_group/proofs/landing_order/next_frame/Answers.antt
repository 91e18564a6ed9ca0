-- The item here is of the kind, or is passed.
use Rattle.std.proofs.Common.{◌≡◌, ◌<◌, length, sym, ◌∙◌, subst, arith}
use Rattle.law_model.proofs.ListLaws.{slice_get-inside}
use Rattle.terminal_group.specs.ItemPlaces.{is_frame}
use Rattle.terminal_group.proofs.ItemPlaceAndHeldItemLaws.{place-here, place-passed, place-none}
use Rattle.terminal_group.proofs.landing_order.next_frame.Goals as goal

pub returns-then-is_frame : goal.returns-then-is_frame
returns-then-is_frame c =
    let inside = subst (λ n. c.loop-i.i < n) c.len-count.ensures.count c.loop-i-test.true in
    let (item, there) = slice_get-inside c.args.items.now c.loop-i.i inside in
    sym (place-here is_frame c.args.items.now c.loop-i.i item there
    (sym (c.is_frame.ensures item there) ∙ c.if-is_frame.true)) ∙ c.loop-i.invariant

pub loop-i-preserved : goal.loop-i-preserved
loop-i-preserved c =
    let inside = subst (λ n. c.loop-i.i < n) c.len-count.ensures.count c.loop-i-test.true in
    let (item, there) = slice_get-inside c.args.items.now c.loop-i.i inside in
    place-passed is_frame c.args.items.now c.loop-i.i item there
    (sym (c.is_frame.ensures item there) ∙ c.if-is_frame.false) ∙ c.loop-i.invariant

pub returns : goal.returns
returns c =
    let past = c.loop-i-test.false in
    let count = c.len-count.ensures.count in
    let end = c.loop-i.auto.i-end (omega (arith, count, c.requires)) in
    let here : c.loop-i.i ≡ length c.args.items.now = omega (arith, past, end, count) in
    count ∙ sym here ∙ sym (place-none is_frame c.args.items.now c.loop-i.i (omega (arith, here))) ∙ c.loop-i.invariant
