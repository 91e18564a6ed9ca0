-- Flips, each told by the place of an octet and of a bit in it.
use Rattle.std.specs.Prelude.{ℕ, ◌+◌, ◌-◌, ◌*◌, ◌^◌, ◌<◌, ◌≤◌, Bool, true, false, List, [], ◌∷◌, ◌++◌, replicate}
use Rattle.std.specs.Prelude.{slice_index, slice_set, bit_xor}
use Rattle.law_model.specs.Common.{xors}
use Rattle.gfp_model.specs.declared.fcs_model.Flip.{Flip}

-- the place of its bit in all
abbrev pub at : Flip → ℕ
at flip = 8 * flip.place + flip.bit

pub record LiesIn (octets : ℕ) (flip : Flip) : Type 0 where
  pub place : flip.place < octets
  pub bit : flip.bit < 8

-- they rise strictly, from a place of a bit on
unfoldable pub IsRising : ℕ → List Flip → Type 0
IsRising least [] = Unit {0}
IsRising least (flip ∷ flips) = (least ≤ at flip) × IsRising (at flip + 1) flips

-- octets with one bit turned over
abbrev pub turned : List ℕ → Flip → List ℕ
turned octets flip = slice_set octets flip.place (bit_xor (slice_index octets flip.place) (2 ^ (7 - flip.bit)))

-- the flips of so many octets as bits
abbrev pub one_of : ℕ → Flip → List Bool
one_of octets flip = replicate (at flip) false ++ true ∷ replicate (8 * octets - (at flip + 1)) false

unfoldable pub flips_of : ℕ → List Flip → List Bool
flips_of octets [] = replicate (8 * octets) false
flips_of octets (flip ∷ flips) = xors (one_of octets flip) (flips_of octets flips)
