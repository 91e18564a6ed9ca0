-- The lines so far are those that were opened.
use Rattle.walk_engine.specs.Common.{AreOpened}
use Rattle.walk_engine.proofs.walk_core.open_way.new_lines.Given as goal

abbrev pub invariant-loop-m : goal.invariant-loop-m
invariant-loop-m l = AreOpened l.config l.m l.lines.items
