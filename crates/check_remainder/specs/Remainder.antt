-- Polynomials over 0 and 1 as lists of bits, the highest power first. A generator of degree g is given by its
-- g lower bits, since its highest bit is 1.
use Rattle.std.specs.Prelude.{◌≡◌, ℕ, zero, suc, Bool, true, false, if◌then◌else◌, List, [], ◌∷◌, ◌++◌, length}
use Rattle.std.specs.Prelude.{replicate}
use Rattle.check_remainder.specs.Bits.{xor}

-- a list with bits added at its front
unfoldable pub add_front : List Bool → List Bool → List Bool
add_front [] p = p
add_front (a ∷ front) [] = []
add_front (a ∷ front) (b ∷ p) = xor a b ∷ add_front front p

-- the product of a generator and q, by schoolbook multiplication
unfoldable pub times : List Bool → List Bool → List Bool
times lower [] = replicate (length lower) false
times lower (b ∷ q) = add_front (if b then true ∷ lower else []) (false ∷ times lower q)

-- r has as many bits as the generator's degree, and the generator divides w with r written behind it
pub record IsRemainder (lower w r : List Bool) : Type 0 where
  pub size : length r ≡ length lower
  pub quotient : List Bool
  pub product : w ++ r ≡ times lower quotient

-- long division: what is left of p after k steps
unfoldable pub divide : ℕ → List Bool → List Bool → List Bool
divide zero lower p = p
divide (suc k) lower [] = []
divide (suc k) lower (b ∷ p) = divide k lower (if b then add_front lower p else p)

-- the remainder of w, which is the only one
abbrev pub remainder : List Bool → List Bool → List Bool
remainder lower w = divide (length w) lower (w ++ replicate (length lower) false)
