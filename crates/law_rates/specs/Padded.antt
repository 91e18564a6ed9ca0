-- A list of sizes in the room of an array.
use Rattle.std.specs.Prelude.{ℕ, ◌-◌, List, ◌++◌, length, replicate}
use Rattle.law_rates.specs.Limits.{most_sizes}

-- with zeros behind them
abbrev pub padded : List ℕ → List ℕ
padded sizes = sizes ++ replicate (most_sizes - length sizes) 0
