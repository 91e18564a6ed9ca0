-- The lines of the ranks up to here are marked, and no other.
use Rattle.std.proofs.Common.{◌≡◌, ℕ, ◌<◌, true, false, length, slice_index, slice_index_or}
use Rattle.terminal_source.proofs.source_core.container_frame.carriers.Given as goal
use Rattle.law_model.specs.Common.{most_lines}

abbrev pub invariant-loop-rank : goal.invariant-loop-rank
invariant-loop-rank l = record {
  size : length l.carry ≡ most_lines;
  all : (rank : ℕ) → rank < l.rank → slice_index_or l.carry (slice_index l.active rank) false ≡ true;
  only : (line : ℕ) → slice_index_or l.carry line false ≡ true → (rank : ℕ) × (rank < l.rank) ×
      (slice_index l.active rank ≡ line);
}
