-- The octets so far are taken, and the frames that they complete are given.
use Rattle.std.proofs.Common.{◌≤◌, ◌-◌, length, take}
use Rattle.law_model.specs.Common.{Start}
use Rattle.terminal_sink.specs.sink_core.RowsInReceiver.{IsKnown, Grows, Gives}
use Rattle.terminal_sink.proofs.sink_core.octets_of_row.take_piece.Given as goal

abbrev pub invariant-loop-at : goal.invariant-loop-at
invariant-loop-at g l = record {
  within : l.at ≤ length l.piece;
  known : IsKnown l.delineator;
  grows : Grows l.fn.delineator l.delineator (take l.at l.piece);
  gives : (start : Start) → Gives (λ o. g.F.FrameOut.stands_for o start) l.fn.delineator
      (take l.at l.piece) l.fn.out l.out;
}

abbrev pub decreases-loop-at : goal.decreases-loop-at
decreases-loop-at g l = length l.piece - l.at
