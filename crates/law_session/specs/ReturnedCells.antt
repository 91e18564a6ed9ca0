-- What is said of the return cells of a session, and of the containers of a line.
use Rattle.std.specs.Prelude.{◌≡◌, ℕ, ◌<◌, ◌≤◌, List, take, Option, None, slice_index_or}
use Rattle.law_model.specs.Common.{Scenario, Told, return_cell, cells_before}
use Rattle.law_model.specs.declared.window_types.Carried.{Carried}
use Rattle.law_model.specs.declared.window_types.Carried.TheVariants.{Whole}

-- of the first n return cells, cell k is the one that the tables say which these cells lead to
abbrev pub IsReturned : Scenario → ℕ → ℕ → Type 0
IsReturned scenario n k = slice_index_or (cells_before scenario n) k None ≡ return_cell scenario
    (cells_before scenario n) k

-- lists of return cells whose first n are the same
abbrev pub AgreeBefore : ℕ → List (Option Told) → List (Option Told) → Type 0
AgreeBefore n a b = take n a ≡ take n b

-- each container from a number on and before another arrives whole
abbrev pub AreWhole : (ℕ → Carried) → ℕ → ℕ → Type 0
AreWhole carries from end = (n : ℕ) → from ≤ n → n < end → carries n ≡ Whole
