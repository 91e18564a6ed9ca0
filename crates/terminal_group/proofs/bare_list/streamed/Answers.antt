-- By its place in the rate.
use Rattle.std.proofs.Common.{◌≡◌, ℕ, length, sym, ap, ap₂, ◌∙◌, arith}
use Rattle.terminal_group.specs.BareList.{bare_frame}
use Rattle.law_rates.specs.Rates.{due_of, frame_at, frame_of, size_at, state_of}
use Rattle.law_rates.proofs.RateFrameLaws.{length-frame_of}
use Rattle.law_model.specs.declared.script_types.Item.{Item}
use Rattle.law_model.specs.declared.script_items.item_list.ItemSort.TheVariants.{Frame}
use Rattle.terminal_group.specs.Item.{item_in}
use Rattle.terminal_group.proofs.bare_list.streamed.Goals as goal

abbrev frame_by : ℕ → ℕ → Item
frame_by due octets = item_in (record { due = due; sort = Frame octets })

pub returns : goal.returns
returns c =
    let rate = c.args.stream.now.rate in
    let n = c.from.result in
    let at = c.at-place.ensures.number in
    let due : c.tick.result ≡ due_of rate n = c.tick.ensures ∙ ap (due_of rate) at in
    let size : c.size.result ≡ size_at rate.sizes n = c.size.ensures.size ∙ ap (size_at rate.sizes) at in
    let least = c.size.ensures.least in
    let long : length (frame_of (size_at rate.sizes n) (state_of rate n)) ≡ size_at rate.sizes n =
    length-frame_of (size_at rate.sizes n) (state_of rate n) (omega (arith, size, least)) in
    ap₂ frame_by due (size ∙ sym long) ∙ ap (λ k. bare_frame (frame_at rate k)) c.from.ensures
