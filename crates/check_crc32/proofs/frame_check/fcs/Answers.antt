-- The table of the most significant bit first is right, and in this order each octet is itself.
use Rattle.std.proofs.Common.{◌∙◌, ap, map-id, []}
use Rattle.check_crc32.specs.Crc32.{most_first, fcs_of}
use Rattle.check_crc32.proofs.CheckRegisterAndTableLaws.{most_first_is, stands_none}
use Rattle.check_crc32.proofs.frame_check.fcs.Goals as goal

pub returns : goal.returns
returns c =
    c.inverted.ensures most_first c.args.octets.now (c.after_octets.ensures most_first [] most_first_is (stands_none most_first))
    ∙ map-id (fcs_of _) ∙ ap fcs_of (map-id c.args.octets.now)
