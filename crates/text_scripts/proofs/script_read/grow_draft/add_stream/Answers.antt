-- The last item is the last frame.
use Rattle.std.proofs.Common.{◌≡◌, ◌-◌, ◌+◌, ℕ, List, length, ap, ap₂, arith}
use Rattle.law_rates.specs.Rates.{count_of, due_of, frame_at}
use Rattle.law_model.specs.declared.script_items.item_list.ItemHead.{ItemHead}
use Rattle.law_model.specs.declared.script_types.Item.{Item}
use Rattle.law_model.specs.session.Items.{stream_item}
use Rattle.text_scripts.proofs.StreamItemLaws.{last_item, some_items}
use Rattle.text_scripts.proofs.script_read.grow_draft.add_stream.Goals as goal

pub overflow_sub-len : goal.overflow_sub-len
overflow_sub-len c =
    some_items c.args.draft.now.items c.push_stream.new.self c.args.rate.now c.len.result c.requires.sound
    c.in_ok-push_stream.ensures c.len.ensures.count

pub head-requires : goal.head-requires
head-requires c =
    let some = some_items c.args.draft.now.items c.push_stream.new.self c.args.rate.now c.len.result c.requires.sound
    c.in_ok-push_stream.ensures c.len.ensures.count in
    omega (arith, c.len.ensures.count, some)

pub returns : goal.returns
returns c =
    let rate = c.args.rate.now in
    let items = c.args.draft.now.items in
    let some = some_items items c.push_stream.new.self rate c.len.result c.requires.sound c.in_ok-push_stream.ensures
    c.len.ensures.count in
    let last : c.len.result - 1 + 1 ≡ length c.push_stream.new.self = omega (arith, some, c.len.ensures.count) in
    let there = last_item items c.push_stream.new.self rate (c.len.result - 1) c.requires.sound
    c.in_ok-push_stream.ensures last in
    let due : c.head.result.due ≡ due_of rate (count_of rate - 1) =
    ap (λ (h : ItemHead). h.due) (c.head.ensures (stream_item (frame_at rate (count_of rate - 1))) there) in
    ap₂ (λ (items : List Item) (due : ℕ). record c.args.draft.now { next = 8; items = items; frame_due = due })
    c.in_ok-push_stream.ensures due
