-- The lines up to one that has such a packet.
use Rattle.std.proofs.Common.{◌≡◌, ◌+◌, ◌*◌, ◌||◌, ◌∷◌, false, drop, sym, ◌∙◌, ap}
use Rattle.std.specs.List.{list_any}
use Rattle.std.proofs.lemmas.List.{drop_more}
use Rattle.fate_engine.specs.Common.{whole_in}
use Rattle.fate_engine.proofs.fate_core.cause_of_row.is_heard.Goals as goal

pub loop-list-init : goal.loop-list-init
loop-list-init c = ap (list_any (λ list. whole_in list (16 * c.args.packet) 24))
    (c.deref-list-items.ensures.value ∙ c.windows.view_is)

pub loop-list-preserved : goal.loop-list-preserved
loop-list-preserved c =
    let items = c.deref-list-items.result.now in
    let i = c.loop-list.list-index in
    let item : whole_in c.list-item.result (16 * c.args.packet) 24 ≡ false =
    ap (λ list. whole_in list (16 * c.args.packet) 24) (sym (c.deref.ensures.value ∙ c.list.view_is))
    ∙ sym c.are_whole.ensures ∙ c.if-are_whole.false in
    sym (ap (list_any (λ list. whole_in list (16 * c.args.packet) 24))
    (drop_more items i c.list-item.result c.loop-list-test.true
    ∙ ap (λ own. own ∷ drop (i + 1) items) (sym c.list-item.is))
    ∙ ap (λ b. b || list_any (λ list. whole_in list (16 * c.args.packet) 24) (drop (i + 1) items)) item)
    ∙ c.loop-list.invariant
