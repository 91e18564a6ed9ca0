-- No frame that has landed is left.
use Rattle.std.proofs.Common.{inl, inr, arith, ap, length}
use Rattle.law_model.specs.Common.{leg_of}
use Rattle.law_model.specs.declared.script_types.Script.{Script}
use Rattle.fate_walks.specs.walk_frames.ItemCursor.{Cursor}
use Rattle.fate_walks.proofs.CursorAndRulerLaws.{past-end, past-before}
use Rattle.fate_walks.proofs.walk_frames.landed_cursor.FrameCursor.next.Goals as goal

pub returns-else-self-len-clause-none : goal.returns-else-self-len-clause-none
returns-else-self-len-clause-none c =
    let inv = c.loop-self.invariant in
    let item = ap (λ (cursor : Cursor). cursor.item) c.self.view_is in
    let items = ap (λ (script : Script). length script.items) c.script.ensures.script in
    past-before (leg_of c.args.walk.now.script) c.args.walk.now.counts c.args.self.now c.loop-self.self inv.1
    (past-end (leg_of c.args.walk.now.script) c.args.walk.now.counts c.loop-self.self inv.0
    (inr (omega (arith, item, c.len.ensures.count, items, c.if-self-len.false))))

pub returns-after-loop-self-clause-none : goal.returns-after-loop-self-clause-none
returns-after-loop-self-clause-none c =
    let inv = c.loop-self.invariant in
    past-before (leg_of c.args.walk.now.script) c.args.walk.now.counts c.args.self.now c.loop-self.self inv.1
    (past-end (leg_of c.args.walk.now.script) c.args.walk.now.counts c.loop-self.self inv.0
    (inl (omega (arith, ap (λ (cursor : Cursor). cursor.left) c.self.view_is, c.loop-self-test.false))))
