-- A worked rate.
use Rattle.std.specs.Prelude.{[], ◌∷◌}
use Rattle.law_rates.specs.declared.rate_frames.Rate.{Rate}

-- sizes of three kinds in turn
abbrev pub mix : Rate
mix = record { sizes = 64 ∷ 1518 ∷ 128 ∷ []; mbits = 30; first = 100; end = 112; number = 5 }
