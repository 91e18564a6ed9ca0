-- The register stands after the words that were read.
use Rattle.std.proofs.Common.{◌*◌, take}
use Rattle.check_crc32.specs.Crc32.{BitOrder}
use Rattle.check_crc32.specs.Register.{RegisterStands, IsTables}
use Rattle.check_crc32.proofs.frame_check.after_words.Given as goal

abbrev pub invariant-loop-i : goal.invariant-loop-i
invariant-loop-i l = (order : BitOrder) → IsTables order l.tables → RegisterStands order (take (8 * l.i) l.octets) l.register
