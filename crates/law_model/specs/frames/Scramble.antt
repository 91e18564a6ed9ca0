-- G.7041, payload scrambling by x^43 + 1: each bit is combined by exclusive or with the scrambled bit 43 places before
-- it.
-- Bits before the list are 0, which is this project's own start.
use Rattle.std.specs.Prelude.{◌≡◌, ℕ, Bool, false, List, [], ◌∷◌, ◌++◌, length, replicate, slice_index_or}
use Rattle.check_remainder.specs.Bits.{octet_bits, octets_of, xor, xors}

-- the bit so many places before the end of a list
abbrev pub back : ℕ → List Bool → Bool
back places s = slice_index_or (replicate places false ++ s) (length s) false

-- scrambled bits, and then those of d, with so many places between the bits that are combined
unfoldable pub scramble_on : ℕ → List Bool → List Bool → List Bool
scramble_on places s [] = s
scramble_on places s (b ∷ d) = scramble_on places (s ++ xor b (back places s) ∷ []) d

-- the recurrence on whole lists: s is what d is scrambled to
abbrev pub IsScrambled : ℕ → List Bool → List Bool → Type 0
IsScrambled places d s = s ≡ xors d (replicate places false ++ s)

-- the scrambled bits of d
abbrev pub scrambled : List Bool → List Bool
scrambled d = scramble_on 43 [] d

-- the bits that are scrambled to s
abbrev pub descrambled : List Bool → List Bool
descrambled s = xors s (replicate 43 false ++ s)

-- the same for octets
abbrev pub scrambled_octets : List ℕ → List ℕ
scrambled_octets octets = octets_of (length octets) (scrambled (octet_bits octets))

abbrev pub descrambled_octets : List ℕ → List ℕ
descrambled_octets octets = octets_of (length octets) (descrambled (octet_bits octets))
