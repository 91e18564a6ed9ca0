-- What is made by shifts is the remainder, for each of the 256 octets.
use Rattle.std.proofs.Common.{◌%◌, ◌*◌, bit_xor, ap, ◌∙◌}
use Rattle.check_remainder.specs.Bits.{bits}
use Rattle.check_hec16.proofs.HecWithOneWrongBitLaws.{left_is}
use Rattle.check_hec16.proofs.header_check.left_of_octet.Goals as goal

pub returns : goal.returns
returns c =
    ap (λ f. bits 16 (bit_xor (bit_xor (f % 16 * 4096) (f * 32)) f)) c.from-folded.ensures
    ∙ left_is c.args.o c.ranges.o.fits
