-- A register in which a check is made: its octets, the lowest first, have the 32 bits that are left of what was read.
use Rattle.std.specs.Prelude.{◌≡◌, ℕ, ◌*◌, ◌<◌, Bool, false, List, [], ◌∷◌, ◌++◌, map, replicate, slice_index}
use Rattle.std.specs.Prelude.{slice_index_or}
use Rattle.std.specs.Int.{to_le_bytes, w32}
use Rattle.check_remainder.specs.Bits.{bits, octet_bits}
use Rattle.check_remainder.specs.Remainder.{remainder}
use Rattle.check_crc32.specs.Crc32.{crc32, rest_of, BitOrder, ordered}

-- the bits of octets, in an order
abbrev pub bits_in : BitOrder → List ℕ → List Bool
bits_in order octets = octet_bits (map (ordered order) octets)

-- the bits of a register
abbrev pub register_bits : BitOrder → ℕ → List Bool
register_bits order register = bits_in order (to_le_bytes w32 register)

-- a register after octets
pub record RegisterStands (order : BitOrder) (octets : List ℕ) (register : ℕ) : Type 0 where
  pub left : register_bits order register ≡ rest_of (bits_in order octets)

-- a table has what is left of each octet
pub record IsTable (order : BitOrder) (table : List ℕ) : Type 0 where
  pub entry : (octet : ℕ) → octet < 256 → register_bits order (slice_index table octet)
      ≡ remainder crc32 (bits_in order (octet ∷ []))

-- table k has what is left of each octet with k octets of zeros behind it
pub record IsTables (order : BitOrder) (tables : List (List ℕ)) : Type 0 where
  pub entry : (k octet : ℕ) → k < 8 → octet < 256
      → register_bits order (slice_index (slice_index_or tables k []) octet)
      ≡ remainder crc32 (bits 8 (ordered order octet) ++ replicate (8 * k) false)
