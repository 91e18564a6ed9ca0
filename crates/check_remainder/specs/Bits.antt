-- Numbers, octets and bits. The most significant bit is always the first.
use Rattle.std.specs.Prelude.{ℕ, zero, suc, ◌+◌, ◌*◌, ◌/◌, ◌%◌, ◌==◌, Bool, true, false, not, if◌then◌else◌, List, []}
use Rattle.std.specs.Prelude.{◌∷◌, ◌++◌, take, drop, flat_map}

-- a number in k bits
unfoldable pub bits : ℕ → ℕ → List Bool
bits zero n = []
bits (suc k) n = bits k (n / 2) ++ (n % 2 == 1) ∷ []

-- the number that has these bits behind those of n
unfoldable pub number_behind : ℕ → List Bool → ℕ
number_behind n [] = n
number_behind n (b ∷ bs) = number_behind (2 * n + (if b then 1 else 0)) bs

-- the number that has these bits
abbrev pub number : List Bool → ℕ
number bs = number_behind 0 bs

-- the bits of octets, in order
abbrev pub octet_bits : List ℕ → List Bool
octet_bits octets = flat_map (bits 8) octets

-- bits cut into so many octets
unfoldable pub octets_of : ℕ → List Bool → List ℕ
octets_of zero bs = []
octets_of (suc count) bs = number (take 8 bs) ∷ octets_of count (drop 8 bs)

-- exclusive or of two bits
abbrev pub xor : Bool → Bool → Bool
xor true b = not b
xor false b = b

-- exclusive or bit by bit, as long as both lists go on
unfoldable pub xors : List Bool → List Bool → List Bool
xors [] ys = []
xors (x ∷ xs) [] = []
xors (x ∷ xs) (y ∷ ys) = xor x y ∷ xors xs ys
