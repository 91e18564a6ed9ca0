-- The octets of the register, inverted.
use Rattle.std.proofs.Common.{◌∙◌}
use Rattle.check_crc32.proofs.CheckRegisterAndTableLaws.{check_of_register}
use Rattle.check_crc32.proofs.frame_check.inverted.Goals as goal

pub returns : goal.returns
returns c order octets stands = c.to_le_bytes.ensures ∙ check_of_register order octets c.args.register stands
