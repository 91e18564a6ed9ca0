-- The entry of the lowest octet, with the octet that comes added, is added to the others.
use Rattle.check_crc32.proofs.CheckRegisterAndTableLaws.{stands_octet}
use Rattle.check_crc32.proofs.frame_check.after_octet.Goals as goal

pub returns : goal.returns
returns c order octets are stands =
    stands_octet order c.args.table.now octets c.args.register c.args.octet c.ranges.register.fits c.ranges.octet.fits
    are stands
