-- The CRC-8 of a control packet (G.7042): the remainder by x^8 + x^2 + x + 1 over nibbles. That it begins with zeros
-- and that its
-- nibbles go most significant bit first is this project's own choice.
use Rattle.std.specs.Prelude.{ℕ, Bool, List}
use Rattle.check_remainder.specs.Bits.{bits, number}
use Rattle.check_remainder.specs.Remainder.{remainder}
use Rattle.check_remainder.specs.DivisionTable.{nibble_bits}

-- the lower bits of the generator
abbrev pub crc8_lower : List Bool
crc8_lower = bits 8 0x07

-- the check over nibbles, each most significant bit first
unfoldable pub crc8_of : List ℕ → ℕ
crc8_of nibbles = number (remainder crc8_lower (nibble_bits nibbles))
