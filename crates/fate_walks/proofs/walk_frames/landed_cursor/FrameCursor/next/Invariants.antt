-- Only items were passed that are no frames which have landed.
use Rattle.std.proofs.Common.{◌-◌, length}
use Rattle.law_model.specs.Common.{leg_of}
use Rattle.fate_walks.specs.walk_frames.ItemCursor.{IsAt, IsSkipped}
use Rattle.fate_walks.proofs.walk_frames.landed_cursor.FrameCursor.next.Given as goal

abbrev pub invariant-loop-self : goal.invariant-loop-self
invariant-loop-self l = IsAt (leg_of l.walk.script) l.walk.counts l.self
    × IsSkipped (leg_of l.walk.script) l.fn.self l.self

abbrev pub decreases-loop-self : goal.decreases-loop-self
decreases-loop-self l = length l.walk.script.items - l.self.item
