-- The path of a line: the cells that its carries give.
use Rattle.std.specs.Prelude.{ℕ, suc, ◌-◌, nat_lt, List, [], ◌∷◌, ◌++◌, take, if◌then◌else◌}
use Rattle.member_cells.specs.declared.containers_and_cells.Container.{Container}
use Rattle.member_cells.specs.declared.containers_and_cells.Cell.{Cell}
use Rattle.member_cells.specs.declared.containers_and_cells.Cell.TheVariants.{Good, Fail, End}
use Rattle.law_model.specs.declared.window_types.Carried.{Carried}
use Rattle.law_model.specs.declared.window_types.Carried.TheVariants.{Whole, Fails, Vanishes}

abbrev pub cells_of : Carried → Container → List Cell
cells_of Whole container = Good container ∷ []
cells_of Fails container = Fail ∷ []
cells_of Vanishes container = []

-- the cells of containers from number n on
unfoldable pub path : (ℕ → Carried) → ℕ → List Container → List Cell
path carries n [] = []
path carries n (container ∷ containers) = cells_of (carries n) container ++ path carries (suc n) containers

-- End comes one carry after the cell of the last container of a line
abbrev pub end_of : ℕ → ℕ → List Cell
end_of total n = if nat_lt total n then End ∷ [] else []

-- the cells that the first i carries of a line give, with so many containers in all, of which these were pushed
abbrev pub cells : (ℕ → Carried) → ℕ → ℕ → List Container → ℕ → List Cell
cells carries delay total containers i = path carries 0 (take (i - delay) containers) ++ end_of total (i - delay)
