-- The single items, and those of streams.
use Rattle.std.proofs.Common.{length, map, ap, arith}
use Rattle.std.proofs.lemmas.List.{length-map}
use Rattle.terminal_group.specs.Item.{item_in}
use Rattle.terminal_group.proofs.BareListLaws.{bare_length}
use Rattle.terminal_group.proofs.bare_list.BareList.len.Goals as goal

pub returns-clause-count : goal.returns-clause-count
returns-clause-count c =
    let long = bare_length (map item_in c.self.inside.singles.items) c.self.inside.streams c.self.invariant in
    let size = length-map c.self.inside.singles.items item_in in
    let seen = ap length c.self.view_is in
    let own = c.len.ensures in
    let more = c.streamed.ensures.items in
    omega (arith, long, size, seen, own, more)
