-- The frames so far are ruled, and those after them aren't due before the last of them.
use Rattle.std.proofs.Common.{◌-◌, length}
use Rattle.law_model.specs.Common.{leg_of, offers_of}
use Rattle.fate_walks.specs.walk_frames.ItemCursor.{frames_before_item}
use Rattle.fate_walks.proofs.CursorAndRulerLaws.{IsRuled}
use Rattle.fate_walks.proofs.walk_fates.frame_places.place_frames.Given as goal

abbrev pub invariant-loop-frame : goal.invariant-loop-frame
invariant-loop-frame l = IsRuled (leg_of l.walk.script) l.walk.counts l.ruler l.cursor l.ticks

abbrev pub decreases-loop-frame : goal.decreases-loop-frame
decreases-loop-frame l =
    length (offers_of l.walk.script.items) - frames_before_item (leg_of l.walk.script) l.cursor.item
