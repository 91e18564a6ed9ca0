-- The next refusal is the item's, where its number is.
use Rattle.std.proofs.Common.{◌++◌, option_to_list, sym, ap, ◌∙◌}
use Rattle.fate_walks.specs.walk_frames.ItemCursor.{Cursor}
use Rattle.fate_walks.proofs.CursorAndRulerLaws.{found-refusal, next-and-rest}
use Rattle.fate_walks.proofs.walk_frames.landed_cursor.FrameCursor.take_refusal.Goals as goal

pub returns-in-Some-clause-finds : goal.returns-in-Some-clause-finds
returns-in-Some-clause-finds c why later is far =
    let rest = c.self.inside.refusals in
    let head = sym (ap (λ o. option_to_list o ++ rest) c.in-Some.is) in
    let both = found-refusal c.args.item (c.in-Some.number, c.in-Some.why) rest c.if-number-item.true why later
    (head ∙ ap (λ (cursor : Cursor). cursor.refusals) c.self.view_is ∙ is) far in
    let next = next-and-rest rest c.next-self-inside.new.self c.next-self-inside.result c.next-self-inside.ensures.some
    c.next-self-inside.ensures.none c.next-self-inside.ensures.ended in
    (both.0, next ∙ both.1)
