-- The octets so far were sent.
use Rattle.std.proofs.Common.{◌≡◌, ◌+◌, ◌≤◌, ℕ, List, ◌++◌, take}
use Rattle.law_model.specs.Common.{Start}
use Rattle.gfp_channels.specs.channel_link.Run.{Received}
use Rattle.gfp_channels.proofs.channel_link.channel_reception.send_all.Given as goal

abbrev pub invariant-loop-o : goal.invariant-loop-o
invariant-loop-o g l = record {
  received : (start : Start) (sent : List ℕ)
      → Received g.K.ByteSink.written g.K.ByteSink.faults l.fn.reception start l.cuts sent
      → Received g.K.ByteSink.written g.K.ByteSink.faults l.reception start l.cuts (sent ++ take l.o-index l.octets);
  place : l.reception.place ≡ l.fn.reception.place + l.o-index;
  more : l.reception.got ≤ l.reception.place;
}
