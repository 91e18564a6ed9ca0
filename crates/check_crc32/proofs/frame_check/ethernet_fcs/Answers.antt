-- The table of the least significant bit first is right.
use Rattle.check_crc32.specs.Crc32.{least_first}
use Rattle.check_crc32.proofs.CheckRegisterAndTableLaws.{least_first_is}
use Rattle.check_crc32.proofs.frame_check.ethernet_fcs.Goals as goal

pub returns : goal.returns
returns c = c.inverted.ensures least_first c.args.octets.now (c.after_words.ensures least_first least_first_is)
