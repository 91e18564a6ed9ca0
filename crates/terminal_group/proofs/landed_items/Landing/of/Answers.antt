-- Nothing has landed yet.
use Rattle.std.proofs.Common.{◌≡◌, ℕ, List, length, sym, ◌∙◌, ap, subst, arith}
use Rattle.std.specs.List.Sorted.{IsNonDecreasing}
use Rattle.std.proofs.lemmas.List.{length-map}
use Rattle.law_model.specs.Common.{dues_of, frame_dues, command_dues}
use Rattle.law_model.specs.declared.script_types.Item.{Item}
use Rattle.law_model.specs.declared.item_refusals.Refusal.{Refusal}
use Rattle.terminal_group.specs.Item.{bare}
use Rattle.terminal_group.specs.Landed.{IsLanded, none_landed}
use Rattle.terminal_group.specs.RefusalCodes.{code_at}
use Rattle.terminal_group.proofs.BareListLaws.{all-short}
use Rattle.terminal_group.proofs.ItemPlaceAndHeldItemLaws.{bare-dues}
use Rattle.terminal_group.proofs.RefusalCodeLaws.{codes-none}
use Rattle.terminal_group.proofs.RefusalOrderAndNextItemLaws.{none-yet}
use Rattle.terminal_group.proofs.landed_items.Landing.of.Goals as goal

pub of-requires : goal.of-requires
of-requires c = all-short c.args.script.now.config.ticks c.args.script.now.items c.requires.sound.items.each

pub invariant_of-result : goal.invariant_of-result
invariant_of-result c =
    let items = c.in_ok-items.items in
    let words = c.in_ok-codes.codes in
    let lines = c.args.script.now.config.lines in
    let script : List Item = c.args.script.now.items in
    let e = c.in_ok-codes.ensures in
    let count = c.len.ensures.count in
    let size = ap length c.in_ok-items.ensures ∙ length-map script bare in
    let few = c.requires.sound.few in
    let dues : dues_of items ≡ dues_of script = ap dues_of c.in_ok-items.ensures ∙ bare-dues script in
    let is = none-yet lines items c.next_frame-frame.result c.next_command-command.result words
    (omega (arith, size, few))
    (subst (λ l. IsNonDecreasing (frame_dues l)) (sym dues) c.requires.sound.items.frames)
    (subst (λ l. IsNonDecreasing (command_dues l)) (sym dues) c.requires.sound.items.commands)
    c.next_frame-frame.ensures c.next_command-command.ensures e.none
    (let room = e.room in omega (arith, count, room)) in
    subst (λ (refusals : List (ℕ × Refusal)). IsLanded (record (none_landed lines items) { refusals = refusals })
    c.next_frame-frame.result c.next_command-command.result words)
    (sym (codes-none lines (code_at words) items 0 e.none)) is

pub returns : goal.returns
returns c =
    let lines = c.args.script.now.config.lines in
    ap (λ (refusals : List (ℕ × Refusal)). record (none_landed lines c.in_ok-items.items) { refusals = refusals })
    (codes-none lines (code_at c.in_ok-codes.codes) c.in_ok-items.items 0 c.in_ok-codes.ensures.none)
    ∙ ap (none_landed lines) c.in_ok-items.ensures
