-- The octets of the word leave its remainder, and there is no other.
use Rattle.std.proofs.Common.{◌≡◌, [], slice_index, subst, sym, ◌∙◌, ap}
use Rattle.check_remainder.specs.Bits.{bits}
use Rattle.check_remainder.specs.Remainder.{IsRemainder, remainder}
use Rattle.check_remainder.proofs.LongDivisionRemainderLaws.{IsRemainder-remainder, only_remainder}
use Rattle.check_hec16.specs.Hec.{crc16}
use Rattle.check_hec16.proofs.HecWithOneWrongBitLaws.{hec_of-from_bits, remainder_of_none, octets_of_word}
use Rattle.check_hec16.proofs.header_check.hec.Goals as goal
use Rattle.check_hec16.proofs.header_check.hec.Goals.{After-with_octet-2}

remaining : (c : After-with_octet-2) → bits 16 c.with_octet-2.result ≡ remainder crc16 (bits 16 c.args.word)
remaining c =
    c.with_octet-2.ensures (bits 8 (slice_index c.to_be_bytes.result 0)) (c.with_octet.ensures [] remainder_of_none)
    ∙ ap (remainder crc16) (octets_of_word c.to_be_bytes.result c.args.word c.to_be_bytes.ensures)

pub returns-clause-value : goal.returns-clause-value
returns-clause-value c =
    hec_of-from_bits c.args.word c.with_octet-2.result c.with_octet-2.type_inv
    (remaining (goal.at.returns-clause-value c).After-with_octet-2)

pub returns-clause-remainder : goal.returns-clause-remainder
returns-clause-remainder c =
    subst (IsRemainder crc16 (bits 16 c.args.word))
    (sym (remaining (goal.at.returns-clause-remainder c).After-with_octet-2))
    (IsRemainder-remainder crc16 (bits 16 c.args.word))

pub returns-clause-only : goal.returns-clause-only
returns-clause-only c rest r =
    only_remainder crc16 (bits 16 c.args.word) rest r
    ∙ sym (remaining (goal.at.returns-clause-only c).After-with_octet-2)
