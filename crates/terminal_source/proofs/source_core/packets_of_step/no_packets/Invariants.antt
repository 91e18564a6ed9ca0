-- The lines so far have zeros.
use Rattle.std.proofs.Common.{◌≡◌, replicate}
use Rattle.terminal_source.proofs.source_core.packets_of_step.no_packets.Given as goal

abbrev pub invariant-loop : goal.invariant-loop
invariant-loop l = l.nibbles.items ≡ replicate l.counter (replicate 16 0)
