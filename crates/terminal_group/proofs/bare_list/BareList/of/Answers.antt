-- The singles are copied, and the streams among them are the same.
use Rattle.std.proofs.Common.{All, map, subst, ap, ◌∙◌, arith}
use Rattle.std.proofs.lemmas.Simd.{map-map}
use Rattle.law_model.specs.session.Items.{IsShort, head_of}
use Rattle.terminal_group.specs.Item.{item_in}
use Rattle.terminal_group.proofs.BareListLaws.{copied, copied_are, all-singles}
use Rattle.terminal_group.proofs.bare_list.BareList.of.Goals as goal

pub bare_copy-requires : goal.bare_copy-requires
bare_copy-requires c =
    all-singles IsShort c.parts.result.1.now 0 c.parts.result.0.now
    (subst (All IsShort) c.parts.ensures.items c.requires)

pub invariant_of-result : goal.invariant_of-result
invariant_of-result c =
    let count = c.len.ensures.count in
    let few = c.len.ensures.few in
    copied_are c.args.items.now c.parts.result.0.now (map item_in c.in_ok-singles.singles.items) c.parts.result.1.now
    c.in_ok-streams.streams c.parts.ensures.items
    (ap (map item_in) c.in_ok-singles.ensures ∙ map-map item_in head_of c.parts.result.0.now) c.in_ok-streams.ensures
    c.streamed.ensures.apart c.parts.ensures.fit (omega (arith, count, few))

pub returns : goal.returns
returns c =
    copied c.args.items.now c.parts.result.0.now (map item_in c.in_ok-singles.singles.items) c.parts.result.1.now
    c.in_ok-streams.streams c.parts.ensures.items
    (ap (map item_in) c.in_ok-singles.ensures ∙ map-map item_in head_of c.parts.result.0.now) c.in_ok-streams.ensures
