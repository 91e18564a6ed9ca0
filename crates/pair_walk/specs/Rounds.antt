-- What rounds of a pair leave where a write may fail, as private clauses say it.
use Rattle.std.specs.Prelude.{◌≡◌, ◌≤◌, Bool, true, false, not}
use Rattle.pair_engine.specs.PairAfterEvent.{Paired}

-- neither way has more rows than ticks
pub record FewRows (pair : Paired) : Type 0 where
  pub there : pair.counts.there.rows ≤ pair.there.config.ticks
  pub back : pair.counts.back.rows ≤ pair.back.config.ticks

-- of two places of frames, a write has failed on none, or on just one
abbrev pub FailsOne : Bool → Bool → Bool → Type 0
FailsOne false there back = (there ≡ false) × (back ≡ false)
FailsOne true there back = back ≡ not there
