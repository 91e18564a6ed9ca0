-- Cells whose containers lie elsewhere, and verdicts, as the definitions have them.
use Rattle.std.specs.Prelude.{Option, Some, None}
use Rattle.law_model.specs.Common.{Container, Cell, Good, Fail, End}
use Rattle.member_path.specs.declared.cell_numbers.signs_and_verdicts.CellRef.{CellRef}
use Rattle.member_path.specs.declared.cell_numbers.signs_and_verdicts.CellRef.TheVariants.{Good as GoodRef, Fail as FailRef, End as EndRef}
use Rattle.member_path.specs.declared.cell_numbers.signs_and_verdicts.CellSign.{CellSign}
use Rattle.member_path.specs.declared.cell_numbers.signs_and_verdicts.CellSign.TheVariants.{Good as GoodSign, Fail as FailSign, End as EndSign}
use Rattle.member_path.specs.declared.cell_numbers.signs_and_verdicts.Verdict.{Verdict}
use Rattle.member_path.specs.declared.cell_numbers.signs_and_verdicts.Verdict.TheVariants.{Whole, Bad}

-- the cell
abbrev pub cell_of : CellRef → Cell
cell_of (GoodRef container) = Good container.now
cell_of FailRef = Fail
cell_of EndRef = End

-- the cell of a sign, where the container of a good cell lies in this place
abbrev pub cell_with : CellSign → Container → Cell
cell_with GoodSign place = Good place
cell_with FailSign place = Fail
cell_with EndSign place = End

-- the container of a number that is whole, and none of a bad one
abbrev pub told_by : Verdict → Option Container
told_by (Whole container) = Some container.now
told_by Bad = None
