-- The lines so far have taken the row, and the others are as they were.
use Rattle.std.proofs.Common.{◌≡◌, ℕ, ◌≤◌, List, [], ◌∷◌, ◌++◌, length}
use Rattle.law_model.specs.Common.{Row}
use Rattle.terminal_sink.specs.member_watch.Watches.{AreWatched, watch_at, is_changed}
use Rattle.terminal_sink.proofs.lcas_sink.watch_packets.Given as goal

abbrev pub invariant-loop-line : goal.invariant-loop-line
invariant-loop-line l = record {
  done : (rows : List Row) → AreWatched l.options rows (length l.row) l.fn.watches → l.changed ≡ is_changed rows l.row →
      AreWatched l.options (rows ++ l.row ∷ []) l.line l.watches;
  left : (line : ℕ) → l.line ≤ line → watch_at l.watches line ≡ watch_at l.fn.watches line;
}
