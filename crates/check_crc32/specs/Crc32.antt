-- The check of 32 bits over octets: what x^32 + x^26 + x^23 + x^22 + x^16 + x^12 + x^11 + x^10 + x^8 + x^7 + x^5 +
-- x^4 + x^2 + x + 1 leaves of them with 32 zeros behind them, where the first 32 bits are inverted before and what is
-- left is inverted after. Ethernet (IEEE 802.3) takes the least significant bit of each octet first; the payload FCS
-- of GFP (G.7041) takes the most significant one first.
use Rattle.std.specs.Prelude.{ℕ, Bool, true, false, List, ◌++◌, length, map, reverse, replicate}
use Rattle.check_remainder.specs.Bits.{bits, number, octet_bits, octets_of, xors}
use Rattle.check_remainder.specs.Remainder.{add_front, divide}

-- the lower bits of the generator
abbrev pub crc32 : List Bool
crc32 = bits 32 0x04c11db7

-- what is left of bits with 32 zeros behind them, the first 32 of which are inverted
unfoldable pub rest_of : List Bool → List Bool
rest_of bs = divide (length bs) crc32 (add_front (replicate 32 true) (bs ++ replicate 32 false))

-- the check over bits
unfoldable pub check_bits : List Bool → List Bool
check_bits bs = xors (replicate 32 true) (rest_of bs)

-- which bit of an octet is taken first, the most significant one or the least significant one
pub data BitOrder : Type 0 where
  most_first : BitOrder
  least_first : BitOrder

-- an octet whose bits, the most significant one first, are those of another in an order
abbrev pub ordered : BitOrder → ℕ → ℕ
ordered most_first octet = octet
ordered least_first octet = number (reverse (bits 8 octet))

-- the frame check sequence of octets, most significant bit first, in four octets
abbrev pub fcs_of : List ℕ → List ℕ
fcs_of octets = octets_of 4 (check_bits (octet_bits octets))

-- and in either order: that of the octets and of the check is the same
abbrev pub fcs_in : BitOrder → List ℕ → List ℕ
fcs_in order octets = map (ordered order) (fcs_of (map (ordered order) octets))
