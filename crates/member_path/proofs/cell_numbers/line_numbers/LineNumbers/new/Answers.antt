-- No cell came.
use Rattle.member_path.proofs.LineNumbersAfterCellLaws.{Stands-none}
use Rattle.member_path.proofs.cell_numbers.line_numbers.LineNumbers.new.Goals as goal

pub returns-clause-stands : goal.returns-clause-stands
returns-clause-stands c place = Stands-none c.new.result place c.new.ensures
