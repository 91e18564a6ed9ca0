-- The bit of a group (GID, G.7042): a sequence that repeats after 32,767 packets. The exact sequence is this project's
-- own.
use Rattle.std.specs.Prelude.{ℕ, zero, suc, ◌-◌, nat_lt, Bool, true, false, if◌then◌else◌, List, [], ◌∷◌, ◌++◌, length}
use Rattle.std.specs.Prelude.{map, slice_index_or}
use Rattle.std.specs.List.{range_with_len}
use Rattle.check_remainder.specs.Bits.{xor}

-- the bit after those of all packets before: 1 in the first fifteen packets, and then the sum modulo 2 of the bits that
-- stand
-- fifteen and fourteen packets before
abbrev pub next_bit : List Bool → Bool
next_bit before =
    if nat_lt (length before) 15 then true
    else xor (slice_index_or before (length before - 15) false) (slice_index_or before (length before - 14) false)

-- the bits of the first packets
unfoldable pub group_bits : ℕ → List Bool
group_bits zero = []
group_bits (suc n) = group_bits n ++ next_bit (group_bits n) ∷ []

-- the bit of packet n
unfoldable pub group_bit : ℕ → Bool
group_bit n = next_bit (group_bits n)

-- the bits of fifteen packets from one on
unfoldable pub bits_from : ℕ → List Bool
bits_from n = map group_bit (range_with_len n 15)
