-- VC-4s that are told apart by a number. What they hold is this project's own.
use Rattle.std.specs.Prelude.{◌≡◌, ℕ, zero, suc, ◌+◌, ◌%◌, ◌<◌, List, [], ◌∷◌, ◌++◌, length, map}
use Rattle.std.specs.List.{range_with_len}
use Rattle.std.specs.Int.{w64, to_be_bytes}

-- so many octets that rise from a number on, modulo 256
unfoldable pub rising : ℕ → ℕ → List ℕ
rising zero n = []
rising (suc count) n = n % 256 ∷ rising count (n + 1)

-- the VC-4 of a number: the number in eight octets, and behind them at each place the sum of the number and the place,
-- modulo 256
unfoldable pub vc_of : ℕ → List ℕ
vc_of i = to_be_bytes w64 i ++ rising 2341 (i + 8)

-- the first ones, from number 0 on
unfoldable pub first_vcs : ℕ → List (List ℕ)
first_vcs count = map vc_of (range_with_len 0 count)

-- ---- as private clauses say it
-- these were fed, and this is the number of the next one
abbrev pub IsFed : ℕ → List (List ℕ) → Type 0
IsFed next vcs = length vcs < 18446744073709551616 → (next ≡ length vcs) × (vcs ≡ first_vcs (length vcs))
