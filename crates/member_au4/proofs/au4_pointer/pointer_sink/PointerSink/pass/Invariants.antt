-- The octets before the next one are taken.
use Rattle.std.proofs.Common.{◌≡◌, ◌-◌, ◌≤◌, length, take}
use Rattle.member_au4.specs.au4_pointer.Sink.{Gives}
use Rattle.member_au4.proofs.au4_pointer.pointer_sink.PointerSink.pass.Given as goal

abbrev pub invariant-loop-at : goal.invariant-loop-at
invariant-loop-at g l = record {
  within : l.at ≤ length l.piece;
  value : l.self.value ≡ l.fn.self.value;
  gives : Gives (λ o. g.O.VcOut.stands_for o) l.fn.out l.out l.fn.self l.self (take l.at l.piece);
}

abbrev pub decreases-loop-at : goal.decreases-loop-at
decreases-loop-at g l = length l.piece - l.at
