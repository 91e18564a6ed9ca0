-- The octets that are filled are the next ones of the stream.
use Rattle.std.proofs.Common.{◌-◌, ◌≤◌, length, take}
use Rattle.gfp_fill.specs.Multiplex.{Writes}
use Rattle.gfp_fill.proofs.stream_filler.Filler.fill.Given as goal

abbrev pub invariant-loop-filled : goal.invariant-loop-filled
invariant-loop-filled g l = record {
  within : l.filled ≤ length l.out;
  writes : Writes g.Q.WaitingFrames.order l.fn.self l.fn.waiting l.local l.waiting (take l.filled l.out);
}

abbrev pub decreases-loop-filled : goal.decreases-loop-filled
decreases-loop-filled g l = length l.out - l.filled
