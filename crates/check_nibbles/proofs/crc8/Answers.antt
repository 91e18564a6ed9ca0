-- The table is that of the generator, so the register ends with the remainder's bits.
use Rattle.std.proofs.Common.{sym, ◌∙◌, subst}
use Rattle.check_remainder.specs.Remainder.{IsRemainder}
use Rattle.check_remainder.specs.DivisionTable.{nibble_bits}
use Rattle.check_remainder.proofs.LongDivisionRemainderLaws.{IsRemainder-remainder, only_remainder}
use Rattle.check_nibbles.specs.NibbleCheck.{crc8_lower}
use Rattle.check_nibbles.proofs.NibbleCheckLaws.{length-crc8_lower, crc8_entries_are, crc8_of_from_bits}
use Rattle.check_nibbles.proofs.crc8.Goals as goal

pub returns-clause-remainder : goal.returns-clause-remainder
returns-clause-remainder c =
    let word = nibble_bits c.args.nibbles.now in
    subst (IsRemainder crc8_lower word)
    (sym (c.remainder_of_nibbles.ensures.remainder crc8_lower length-crc8_lower crc8_entries_are))
    (IsRemainder-remainder crc8_lower word)

pub returns-clause-only : goal.returns-clause-only
returns-clause-only c rest is_rest =
    only_remainder crc8_lower (nibble_bits c.args.nibbles.now) rest is_rest
    ∙ sym (c.remainder_of_nibbles.ensures.remainder crc8_lower length-crc8_lower crc8_entries_are)

pub returns-clause-value : goal.returns-clause-value
returns-clause-value c =
    crc8_of_from_bits c.args.nibbles.now c.remainder_of_nibbles.result c.remainder_of_nibbles.ensures.within
    (c.remainder_of_nibbles.ensures.remainder crc8_lower length-crc8_lower crc8_entries_are)
