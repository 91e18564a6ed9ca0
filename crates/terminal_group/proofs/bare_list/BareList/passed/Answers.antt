-- The number behind a stream is behind all its frames.
use Rattle.std.proofs.Common.{◌≤◌, List, length, map, slice_get, ◌∙◌, ap, subst, arith}
use Rattle.law_model.specs.declared.script_types.Item.{Item}
use Rattle.law_model.specs.session.Streams.{IsPlace}
use Rattle.terminal_group.specs.Item.{item_in}
use Rattle.terminal_group.proofs.BareListLaws.{bare_length, streamed_there, frame_there}
use Rattle.terminal_group.proofs.bare_list.BareList.passed.Goals as goal

pub overflow_add-result : goal.overflow_add-result
overflow_add-result c =
    let long = bare_length (map item_in c.self.inside.singles.items) c.self.inside.streams c.self.invariant in
    let seen = ap length c.self.view_is in
    let few = c.self.invariant.few in
    omega (arith, long, seen, few, c.requires)

pub returns-in-Streamed-clause-later : goal.returns-in-Streamed-clause-later
returns-in-Streamed-clause-later c =
    let at = subst (IsPlace c.self.inside.streams c.args.number) c.in-Streamed.is c.place.ensures in
    (streamed_there _ _ _ _ c.self.invariant at).behind

pub returns-in-Streamed-clause-within : goal.returns-in-Streamed-clause-within
returns-in-Streamed-clause-within c =
    let at = subst (IsPlace c.self.inside.streams c.args.number) c.in-Streamed.is c.place.ensures in
    subst (λ (l : List Item). c.in-Streamed.stream.now.behind ≤ length l) c.self.view_is
    (streamed_there _ _ _ _ c.self.invariant at).within

pub returns-in-Streamed-clause-frames : goal.returns-in-Streamed-clause-frames
returns-in-Streamed-clause-frames c k item low high there =
    let at = subst (IsPlace c.self.inside.streams c.args.number) c.in-Streamed.is c.place.ensures in
    let facts = streamed_there _ _ _ _ c.self.invariant at in
    let first = facts.first in
    (frame_there _ _ _ _ _ item c.self.invariant at (omega (arith, first, low)) high
    (ap (λ (l : List Item). slice_get l k) c.self.view_is ∙ there)).1
