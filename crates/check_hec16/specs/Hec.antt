-- G.7041, header error control: the remainder by x^16 + x^12 + x^5 + 1.
use Rattle.std.specs.Prelude.{ℕ, Bool, List}
use Rattle.check_remainder.specs.Bits.{bits, number}
use Rattle.check_remainder.specs.Remainder.{remainder}

-- the lower bits of the generator
abbrev pub crc16 : List Bool
crc16 = bits 16 0x1021

-- the check over a word of 16 bits
abbrev pub hec_bits : ℕ → List Bool
hec_bits word = remainder crc16 (bits 16 word)

-- the same as a number
unfoldable pub hec_of : ℕ → ℕ
hec_of word = number (hec_bits word)
