-- The upper octet of the register is combined with the octet that comes, and what that leaves is added to the lower
-- one.
use Rattle.check_remainder.proofs.NumberAndOctetBitsLaws.{length-bits}
use Rattle.check_remainder.proofs.LongDivisionRemainderLaws.{step}
use Rattle.check_hec16.specs.Hec.{crc16}
use Rattle.check_hec16.proofs.header_check.with_octet.Goals as goal

pub returns : goal.returns
returns c word stands =
    step 8 8 crc16 word c.args.register c.args.o c.left_of_octet.result
    (length-bits 16 0x1021) stands c.left_of_octet.ensures
