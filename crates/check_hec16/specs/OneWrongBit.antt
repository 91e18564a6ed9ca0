-- Words whose check stands behind them, with at most one wrong bit among both.
use Rattle.std.specs.Prelude.{ℕ, ◌-◌, ◌^◌, ◌<◌, ◌≤◌, true, false, Bool, List, ◌∷◌, ◌++◌, replicate}
use Rattle.check_remainder.specs.Bits.{bits, xors}
use Rattle.check_remainder.specs.BitCount.{count}
use Rattle.check_hec16.specs.Hec.{hec_bits}

-- one bit of 32
abbrev pub bit_at : ℕ → List Bool
bit_at place = replicate place false ++ true ∷ replicate (31 - place) false

-- a word that, with its check behind it, differs from a word and what is behind it in at most one bit
pub record IsFixed (word check right : ℕ) : Type 0 where
  pub fits : right < 2 ^ 16
  pub few : count (xors (bits 16 right ++ hec_bits right) (bits 16 word ++ bits 16 check)) ≤ 1
