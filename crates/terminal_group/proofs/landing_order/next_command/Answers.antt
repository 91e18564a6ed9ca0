-- The item here is of the kind, or is passed, and with it the rest of its stream.
use Rattle.std.proofs.Common.{◌≡◌, ◌<◌, length, sym, ◌∙◌, subst, arith}
use Rattle.law_model.proofs.ListLaws.{slice_get-inside}
use Rattle.terminal_group.specs.ItemPlaces.{is_command}
use Rattle.terminal_group.proofs.ItemPlaceAndHeldItemLaws.{place-here, place-over, place-none, none-between}
use Rattle.terminal_group.proofs.landing_order.next_command.Goals as goal

pub returns-then-is_command : goal.returns-then-is_command
returns-then-is_command c =
    let inside = subst (λ n. c.loop-i.i < n) c.len-count.ensures.count c.loop-i-test.true in
    let (item, there) = slice_get-inside c.args.items.now c.loop-i.i inside in
    sym (place-here is_command c.args.items.now c.loop-i.i item there
    (sym (c.is_command.ensures item there) ∙ c.if-is_command.true)) ∙ c.loop-i.invariant.at

pub loop-i-preserved : goal.loop-i-preserved
loop-i-preserved c = record {
  within = c.passed-i.ensures.within;
  at = place-over is_command c.args.items.now c.loop-i.i c.passed-i.result
      (let later = c.passed-i.ensures.later in omega (arith, later)) c.passed-i.ensures.within
      (none-between is_command c.args.items.now c.loop-i.i c.passed-i.result c.is_command.result c.is_command.ensures
      c.if-is_command.false c.passed-i.ensures.frames) ∙ c.loop-i.invariant.at;
}

pub returns : goal.returns
returns c =
    let past = c.loop-i-test.false in
    let count = c.len-count.ensures.count in
    let within = c.loop-i.invariant.within in
    let here : c.loop-i.i ≡ length c.args.items.now = omega (arith, past, within, count) in
    count ∙ sym here ∙ sym (place-none is_command c.args.items.now c.loop-i.i (omega (arith, here)))
    ∙ c.loop-i.invariant.at
