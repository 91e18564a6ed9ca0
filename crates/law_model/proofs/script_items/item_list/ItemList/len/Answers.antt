-- Both together.
use Rattle.std.proofs.Common.{◌≡◌, length, ap, arith}
use Rattle.law_model.specs.session.Items.{stream_item}
use Rattle.law_model.specs.session.Streams.{mixed_from}
use Rattle.law_model.proofs.StreamPlacesLaws.{length-mixed}
use Rattle.law_model.proofs.script_items.item_list.ItemList.len.Goals as goal

pub returns-clause-count : goal.returns-clause-count
returns-clause-count c =
    let singles = c.self.inside.singles.items in
    let parts = c.self.invariant in
    let all = length-mixed stream_item c.self.inside.streams 0 0 singles parts.apart parts.fit in
    let same : length (mixed_from stream_item 0 singles c.self.inside.streams) ≡ length c.args.self.now =
    ap length c.self.view_is in
    omega (arith, c.len.ensures, c.streamed.ensures.items, all, same, c.self.inside.singles.ok.0)
