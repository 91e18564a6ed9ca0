-- The lines of the sequence numbers so far are found.
use Rattle.std.proofs.Common.{◌≡◌}
use Rattle.law_model.specs.Common.{active_from}
use Rattle.terminal_sink.proofs.active_lines.find_active.Given as goal

abbrev pub invariant-loop-sq : goal.invariant-loop-sq
invariant-loop-sq l = l.active ≡ active_from 0 l.sq l.packets
