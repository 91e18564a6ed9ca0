-- A list in an array.
use Rattle.std.specs.Prelude.{ℕ, ◌-◌, List, ◌++◌, length, replicate}
use Rattle.law_model.specs.Common.{most_lines}

-- up to 128 numbers, with zeros behind them
abbrev pub padded : List ℕ → List ℕ
padded lines = lines ++ replicate (most_lines - length lines) 0
