-- What is handed in is the item of its number.
use Rattle.std.proofs.Common.{◌∙◌}
use Rattle.terminal_group.proofs.LandingLegItemLaws.{kept-item}
use Rattle.parts_tests.proofs.group_state.submitted.Goals as goal

pub submit-requires : goal.submit-requires
submit-requires c =
    let group = c.args.group.now in
    kept-item group.script.items group.state.landing group.items c.args.number _
    (λ item at. c.lent_item.ensures ∙ c.lend-lent.ensures item at)
