-- The rows of a session.
use Rattle.law_row.proofs.ActivePacketsLaws.{active_of-all}
use Rattle.law_row.proofs.WholeRowAndStoppedSinkLaws.{row-whole, row-stops, joined-dealt, row-payload}
use Rattle.law_row.proofs.whole_rows.row_law.Goals as goal

pub returns-clause-active : goal.returns-clause-active
returns-clause-active c = active_of-all

pub returns-clause-whole : goal.returns-clause-whole
returns-clause-whole c = row-whole

pub returns-clause-stops : goal.returns-clause-stops
returns-clause-stops c = row-stops

pub returns-clause-joined : goal.returns-clause-joined
returns-clause-joined c = joined-dealt

pub returns-clause-payload : goal.returns-clause-payload
returns-clause-payload c = row-payload
