-- Division nibble by nibble, with a table of what each nibble leaves.
use Rattle.std.specs.Prelude.{◌≡◌, ℕ, ◌<◌, Bool, List, length, slice_index, flat_map}
use Rattle.check_remainder.specs.Bits.{bits}
use Rattle.check_remainder.specs.Remainder.{remainder}

-- the bits of nibbles, in order
abbrev pub nibble_bits : List ℕ → List Bool
nibble_bits nibbles = flat_map (bits 4) nibbles

-- a table has the remainder of each nibble
pub record IsTable (lower : List Bool) (table : List ℕ) : Type 0 where
  pub entry : (nibble : ℕ) → nibble < 16 →
      bits (length lower) (slice_index table nibble) ≡ remainder lower (bits 4 nibble)
