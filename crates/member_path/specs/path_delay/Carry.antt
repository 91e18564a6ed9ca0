-- The cells that a carry gives.
use Rattle.std.specs.Prelude.{List, [], ◌∷◌, Option, Some, None}
use Rattle.law_model.specs.Common.{Container, Cell}
use Rattle.law_model.specs.declared.window_types.Carried.{Carried}
use Rattle.law_model.specs.declared.window_types.Carried.TheVariants.{Whole, Fails, Vanishes}
use Rattle.member_path.specs.declared.cell_numbers.signs_and_verdicts.CellSign.{CellSign}
use Rattle.member_path.specs.declared.cell_numbers.signs_and_verdicts.CellSign.TheVariants.{Good, Fail}
use Rattle.member_path.specs.cell_numbers.SignsAsCells.{cell_with}

-- where the container of a good cell lies in this place
abbrev pub carry_cells : Option CellSign → Container → List Cell
carry_cells None place = []
carry_cells (Some sign) place = cell_with sign place ∷ []

-- by what comes of a container
abbrev pub carry_for : Carried → Option CellSign
carry_for Whole = Some Good
carry_for Fails = Some Fail
carry_for Vanishes = None
