-- The octets of the pairs so far are written, if all were digits; else one wasn't.
use Rattle.std.proofs.Common.{◌≤◌, ◌-◌, length}
use Rattle.text_hex.proofs.HexDigitLanesLaws.{AreRead}
use Rattle.text_hex.proofs.decoding.decode.Given as goal

abbrev pub invariant-loop-done : goal.invariant-loop-done
invariant-loop-done l = record {
  within : l.done ≤ length l.octets;
  read : AreRead l.text l.octets l.done l.right;
}

abbrev pub decreases-loop-done : goal.decreases-loop-done
decreases-loop-done l = length l.octets - l.done

abbrev pub invariant-loop-i : goal.invariant-loop-i
invariant-loop-i l = AreRead l.text l.octets l.i l.right
