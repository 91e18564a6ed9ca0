-- The turns so far are made and seen, and the others are left.
use Rattle.std.proofs.Common.{◌≡◌}
use Rattle.command_rooms.specs.TurnsLeft.{turns_in, AreLeft}
use Rattle.command_rooms.proofs.turns.watched_turns.drive.Given as goal

abbrev pub invariant-loop-turn : goal.invariant-loop-turn
invariant-loop-turn g l = record {
  script : l.walk.script ≡ l.fn.walk.script;
  left : AreLeft l.fn.walk.script l.turns l.walk.counts;
  seen : (before : g.W.Watcher.Before) → g.W.Watcher.has_seen l.fn.watcher before l.fn.walk →
      g.W.Watcher.has_seen l.watcher before l.walk;
}

abbrev pub decreases-loop-turn : goal.decreases-loop-turn
decreases-loop-turn g l = turns_in l.fn.walk.script l.turns l.walk.counts
