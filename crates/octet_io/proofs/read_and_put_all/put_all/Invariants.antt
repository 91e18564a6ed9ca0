-- The octets before `at` are written, and no fault came.
use Rattle.std.proofs.Common.{◌≤◌, ◌-◌, length, take}
use Rattle.octet_io.specs.Transfer.{Appends}
use Rattle.octet_io.proofs.read_and_put_all.put_all.Given as goal

abbrev pub invariant-loop-at : goal.invariant-loop-at
invariant-loop-at g l = record {
  within : l.at ≤ length l.piece;
  written : Appends g.K.ByteSink.written g.K.ByteSink.faults l.fn.sink l.sink (take l.at l.piece);
}

abbrev pub decreases-loop-at : goal.decreases-loop-at
decreases-loop-at g l = length l.piece - l.at
