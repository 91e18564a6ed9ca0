-- As many frames were made as there were turns.
use Rattle.std.proofs.Common.{◌≡◌}
use Rattle.parts_tests.proofs.drawn_sources.drawn_frames.Given as goal

abbrev pub invariant-loop-t : goal.invariant-loop-t
invariant-loop-t l = record { lines : l.core.lines ≡ 6; ticks : l.core.ticks ≡ l.t }
