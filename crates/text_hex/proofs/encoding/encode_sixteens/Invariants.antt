-- The text of the sixteens so far is written.
use Rattle.std.proofs.Common.{◌≡◌, ◌*◌, take}
use Rattle.hex.specs.Hex.{encode_lower}
use Rattle.text_hex.proofs.encoding.encode_sixteens.Given as goal

abbrev pub invariant-loop-i : goal.invariant-loop-i
invariant-loop-i l = take (32 * l.i) l.text ≡ encode_lower (take (16 * l.i) l.octets)
