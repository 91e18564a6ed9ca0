-- What a cell is, is one thing, and stays so.
use Rattle.member_path.proofs.LineNumbersAfterCellLaws.{IsPlace_only, IsPlace-append}
use Rattle.member_path.proofs.h4_multiframe.place_law.Goals as goal

pub returns-clause-only : goal.returns-clause-only
returns-clause-only c = IsPlace_only

pub returns-clause-stays : goal.returns-clause-stays
returns-clause-stays c = IsPlace-append
