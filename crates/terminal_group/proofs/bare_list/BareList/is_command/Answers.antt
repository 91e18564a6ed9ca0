-- A single item says it itself, and all items of a stream are frames.
use Rattle.std.proofs.Common.{List, slice_get, sym, ◌∙◌, ap, subst}
use Rattle.law_model.specs.declared.script_types.Item.{Item}
use Rattle.law_model.specs.session.Streams.{IsPlace}
use Rattle.terminal_group.specs.ItemPlaces.{is_command}
use Rattle.terminal_group.proofs.BareListLaws.{single_low, single_told, one_item, streamed_there, frame_there}
use Rattle.terminal_group.proofs.bare_list.BareList.is_command.Goals as goal

pub single-requires : goal.single-requires
single-requires c =
    let at = subst (IsPlace c.self.inside.streams c.args.number) c.in-Single.is c.place.ensures in
    single_low _ _ _ _ _ _ c.self.invariant c.self.view_is at c.deref.ensures.value c.requires

pub returns-in-Single : goal.returns-in-Single
returns-in-Single c item there =
    let at = subst (IsPlace c.self.inside.streams c.args.number) c.in-Single.is c.place.ensures in
    let own = single_told _ _ _ _ _ _ _ c.self.invariant c.self.view_is at c.deref.ensures.value c.single.ensures in
    c.is_frame.ensures.command ∙ ap (λ (i : Item). is_command i.kind) (one_item c.args.self.now c.args.number _ _ own there)

pub returns-in-Streamed : goal.returns-in-Streamed
returns-in-Streamed c item there =
    let at = subst (IsPlace c.self.inside.streams c.args.number) c.in-Streamed.is c.place.ensures in
    let facts = streamed_there _ _ _ _ c.self.invariant at in
    sym (frame_there _ _ _ _ _ item c.self.invariant at facts.first facts.behind
    (ap (λ (l : List Item). slice_get l c.args.number) c.self.view_is ∙ there)).1
