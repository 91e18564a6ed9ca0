-- No frame is made.
use Rattle.std.proofs.Common.{◌≡◌}
use Rattle.parts_tests.proofs.drawn_sources.source.Given as goal

abbrev pub invariant-loop-line : goal.invariant-loop-line
invariant-loop-line l = record { lines : l.core.lines ≡ 6; ticks : l.core.ticks ≡ 0 }
