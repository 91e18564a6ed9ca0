-- The text of the octets so far is written, and that of the others is still to come.
use Rattle.std.proofs.Common.{◌≡◌, ◌*◌, ◌++◌, take, drop}
use Rattle.hex.specs.Hex.{encode_lower}
use Rattle.text_hex.proofs.encoding.encode_each.Given as goal

abbrev pub invariant-loop-i : goal.invariant-loop-i
invariant-loop-i l = take (2 * l.i) l.text ++ encode_lower (drop l.i l.octets) ≡ encode_lower l.octets
