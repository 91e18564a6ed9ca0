-- `pair`: the report of each way of two scripts.
use Rattle.std.specs.Prelude.{ℕ, List}
use Rattle.pair_walk.specs.Headline.{IsPairHeadline}
use Rattle.command_parts.specs.Common.{Lent, Takes}

-- the headline of two scripts was written: that of the way there on `out`, and that of the way back on notes
pub record TellsPair {K E : Type 0} (out : Lent K) (notes : Lent E) (text : List ℕ) : Type 0 where
  pub there : List ℕ
  pub back : List ℕ
  pub on_out : Takes out there
  pub on_notes : Takes notes back
  pub is : IsPairHeadline text there back
