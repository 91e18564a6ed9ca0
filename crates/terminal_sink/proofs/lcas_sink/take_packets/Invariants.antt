-- The lines so far have their next state, and the others are as they were.
use Rattle.std.proofs.Common.{◌≡◌, ℕ}
use Rattle.terminal_sink.specs.lcas_sink.SinkStates.{state_at, state_upto}
use Rattle.terminal_sink.proofs.lcas_sink.take_packets.Given as goal

abbrev pub invariant-loop-line : goal.invariant-loop-line
invariant-loop-line l = (line : ℕ) → state_at l.states line ≡ state_upto l.line l.fn.states l.row line
