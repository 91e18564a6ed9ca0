-- The cells of a session.
use Rattle.law_session.proofs.ReturnCellAndLineWordLaws.{session-cell, cells_before-prefix, table_of-take}
use Rattle.law_session.proofs.return_cells.session_law.Goals as goal

pub returns-clause-cells : goal.returns-clause-cells
returns-clause-cells c = session-cell

pub returns-clause-prefix : goal.returns-clause-prefix
returns-clause-prefix c = cells_before-prefix

pub returns-clause-tables : goal.returns-clause-tables
returns-clause-tables c = table_of-take
