-- The table of the CRC-8, and what the check is as a number.
use Rattle.std.proofs.Common.{◌≡◌, ℕ, ◌^◌, ◌<◌, List, [], ◌∷◌, length, refl, sym, ◌∙◌, ap, subst, mod-eq_of_lt}
use Rattle.check_remainder.specs.Bits.{bits, number}
use Rattle.check_remainder.specs.Remainder.{add_front, divide, remainder}
use Rattle.check_remainder.specs.DivisionTable.{IsTable, nibble_bits}
use Rattle.check_remainder.proofs.NumberAndOctetBitsLaws.{length-bits, number-bits, number_below}
use Rattle.check_remainder.proofs.LongDivisionRemainderLaws.{length-remainder, IsTable-from_entries}
use Rattle.check_nibbles.specs.NibbleCheck.{crc8_lower, crc8_of}

-- the remainders of the nibbles by the generator
abbrev pub crc8_entries : List ℕ
crc8_entries =
    0x00 ∷ 0x07 ∷ 0x0e ∷ 0x09 ∷ 0x1c ∷ 0x1b ∷ 0x12 ∷ 0x15 ∷ 0x38 ∷ 0x3f ∷ 0x36 ∷ 0x31 ∷ 0x24 ∷ 0x23 ∷ 0x2a ∷ 0x2d ∷ []

pub length-crc8_lower : length crc8_lower ≡ 8
length-crc8_lower = length-bits 8 0x07

pub crc8_entries_are : IsTable crc8_lower crc8_entries
unfolding bits add_front divide
crc8_entries_are = IsTable-from_entries crc8_lower crc8_entries refl

pub length-crc8_rest : (nibbles : List ℕ) → length (remainder crc8_lower (nibble_bits nibbles)) ≡ 8
length-crc8_rest nibbles = length-remainder crc8_lower (nibble_bits nibbles) ∙ length-crc8_lower

-- the check is an octet
pub crc8_of_below : (nibbles : List ℕ) → crc8_of nibbles < 256
unfolding crc8_of
crc8_of_below nibbles =
    let rest = remainder crc8_lower (nibble_bits nibbles) in
    subst (λ n. number rest < 2 ^ n) (length-crc8_rest nibbles) (number_below rest)

-- a number below 256 that has the remainder's bits is the check
pub crc8_of_from_bits : (nibbles : List ℕ) (n : ℕ) → n < 256 → bits 8 n ≡ remainder crc8_lower (nibble_bits nibbles) →
    n ≡ crc8_of nibbles
unfolding crc8_of
crc8_of_from_bits nibbles n small same = sym (mod-eq_of_lt small) ∙ sym (number-bits 8 n) ∙ ap number same
