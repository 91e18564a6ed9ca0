-- The octets that are filled are the next ones.
use Rattle.std.proofs.Common.{◌≡◌, ◌-◌, ◌≤◌, length, take}
use Rattle.member_au4.specs.au4_pointer.Source.{Asks}
use Rattle.member_au4.proofs.au4_pointer.pointer_source.PointerSource.fill.Given as goal

abbrev pub invariant-loop-filled : goal.invariant-loop-filled
invariant-loop-filled g l = record {
  within : l.filled ≤ length l.piece;
  value : l.self.value ≡ l.fn.self.value;
  wait : l.self.wait ≡ l.fn.self.wait;
  asks : Asks (λ f. g.V.VcFeed.stands_for f) l.fn.feed l.feed l.fn.self.rest (take l.filled l.piece) l.self.rest;
}

abbrev pub decreases-loop-filled : goal.decreases-loop-filled
decreases-loop-filled g l = length l.initial.piece - l.filled
