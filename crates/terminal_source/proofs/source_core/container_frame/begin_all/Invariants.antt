-- The lines up to here are begun.
use Rattle.member_cells.specs.HeldPlaces.{held}
use Rattle.terminal_source.specs.source_core.FrameContainers.{AreBegun}
use Rattle.terminal_source.proofs.source_core.container_frame.begin_all.Given as goal

abbrev pub invariant-loop-line : goal.invariant-loop-line
invariant-loop-line l = AreBegun l.ticks l.nibbles l.active l.size l.line (held l.out)
