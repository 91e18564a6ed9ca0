-- The octets so far were received.
use Rattle.std.proofs.Common.{◌+◌, ◌≤◌, [], take}
use Rattle.law_model.specs.Common.{Start}
use Rattle.gfp_noise.specs.noise_link.ReceivedSoFar.{Received}
use Rattle.gfp_noise.proofs.noise_link.noise_reception.receive_all.Given as goal

abbrev pub invariant-loop-o : goal.invariant-loop-o
invariant-loop-o g l = record {
  received : (start : Start) → Received g.K.ByteSink.written g.K.ByteSink.faults l.fn.reception start []
      → Received g.K.ByteSink.written g.K.ByteSink.faults l.reception start (take l.o-index l.octets);
  few : l.reception.got + l.reception.dropped ≤ l.o-index;
}
