-- The least item that is held is the next frame or the next command.
use Rattle.std.proofs.Common.{slice_get, ap, ◌∙◌}
use Rattle.terminal_group.specs.ItemPlaces.{due_by, least_held}
use Rattle.terminal_group.proofs.ItemPlaceAndHeldItemLaws.{held-told}
use Rattle.terminal_group.proofs.landing_order.held_item.Goals as goal

pub returns : goal.returns
returns c a b frames commands frame command =
    c.least_of.ensures
    ∙ ap (λ x. least_held 0 c.args.frame c.args.command x c.is_due-operator.result) c.is_due-client.ensures
    ∙ ap (λ y. least_held 0 c.args.frame c.args.command (due_by c.args.ticks (slice_get c.args.items.now c.args.frame))
    y) c.is_due-operator.ensures
    ∙ held-told c.args.items.now c.args.ticks a b c.args.frame c.args.command frames commands frame command
