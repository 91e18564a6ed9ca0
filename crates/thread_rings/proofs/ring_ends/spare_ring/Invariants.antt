-- So many places were put into the ring, and none was taken out.
use Rattle.std.proofs.Common.{◌≡◌, ◌+◌, [], length}
use Rattle.rtrb.specs.Ring.{sent, received, known_free, producer_capacity, IsPair}
use Rattle.thread_rings.proofs.ring_ends.spare_ring.Given as goal

abbrev pub invariant-loop : goal.invariant-loop
invariant-loop g l = record {
  ends : IsPair l.returns l.spares;
  given : length (sent l.returns) ≡ l.counter;
  free : known_free l.returns + l.counter ≡ l.fn.size;
  taken : received l.spares ≡ [];
  slots : producer_capacity l.returns ≡ l.fn.size;
}
