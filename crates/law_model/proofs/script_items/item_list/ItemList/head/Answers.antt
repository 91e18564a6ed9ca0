-- Where the item stands.
use Rattle.std.proofs.Common.{◌≡◌, ℕ, ◌<◌, ◌≤◌, length, subst, sym, ap, ◌∙◌, arith}
use Rattle.std.proofs.lemmas.List.Elements.{All-get_or}
use Rattle.law_rates.specs.Rates.{frame_at}
use Rattle.law_model.specs.session.Items.{IsShort, head_of, stream_item}
use Rattle.law_model.specs.session.Streams.{mixed_from}
use Rattle.law_model.proofs.StreamPlacesLaws.{single_inside, single_is, stream_facts, streamed_is}
use Rattle.law_model.proofs.script_items.item_list.ItemList.head.Goals as goal

pub index-requires : goal.index-requires
index-requires c =
    let parts = c.self.invariant in
    let streams = c.self.inside.streams in
    let singles = c.self.inside.singles.items in
    let same : length (mixed_from stream_item 0 singles streams) ≡ length c.args.self.now = ap length c.self.view_is in
    let inside = single_inside stream_item streams singles c.args.number c.in-Single.index parts.apart parts.fit
    c.in-Single.ensures.0 c.in-Single.ensures.1 (omega (arith, same, c.requires)) in
    omega (arith, inside, c.self.inside.singles.ok.0)

pub single_head-requires : goal.single_head-requires
single_head-requires c =
    let parts = c.self.invariant in
    let streams = c.self.inside.streams in
    let singles = c.self.inside.singles.items in
    let same : length (mixed_from stream_item 0 singles streams) ≡ length c.args.self.now = ap length c.self.view_is in
    let inside = single_inside stream_item streams singles c.args.number c.in-Single.index parts.apart parts.fit
    c.in-Single.ensures.0 c.in-Single.ensures.1 (omega (arith, same, c.requires)) in
    subst IsShort (sym c.index.ensures)
    (All-get_or IsShort singles c.in-Single.index c.index.result.now inside parts.short)

pub overflow_sub-number : goal.overflow_sub-number
overflow_sub-number c =
    (stream_facts c.self.inside.streams 0 0 c.args.number c.in-Streamed.stream.now c.self.invariant.apart
    c.in-Streamed.ensures).0

pub frame_head-requires-clause-rate : goal.frame_head-requires-clause-rate
frame_head-requires-clause-rate c =
    (stream_facts c.self.inside.streams 0 0 c.args.number c.in-Streamed.stream.now c.self.invariant.apart
    c.in-Streamed.ensures).3

pub frame_head-requires-clause-there : goal.frame_head-requires-clause-there
frame_head-requires-clause-there c =
    let (first, behind, ends, _) = stream_facts c.self.inside.streams 0 0 c.args.number c.in-Streamed.stream.now
    c.self.invariant.apart c.in-Streamed.ensures in
    omega (arith, first, behind, ends, c.from.ensures)

pub returns-in-Single : goal.returns-in-Single
returns-in-Single c = λ item is.
    c.single_head.ensures
    ∙ ap head_of (single_is stream_item c.self.inside.streams c.self.inside.singles.items c.args.self.now c.args.number
    c.in-Single.index c.index.result.now item c.self.invariant.apart c.self.invariant.fit c.in-Single.ensures.0
    c.in-Single.ensures.1 c.self.view_is c.requires c.index.ensures is)

pub returns-in-Streamed : goal.returns-in-Streamed
returns-in-Streamed c = λ item is.
    c.frame_head.ensures
    ∙ ap (λ k. head_of (stream_item (frame_at c.in-Streamed.stream.now.rate k))) c.from.ensures
    ∙ ap head_of (streamed_is stream_item c.self.inside.streams c.self.inside.singles.items c.args.self.now
    c.args.number c.in-Streamed.stream.now item c.self.invariant.apart c.self.invariant.fit c.in-Streamed.ensures
    c.self.view_is is)
