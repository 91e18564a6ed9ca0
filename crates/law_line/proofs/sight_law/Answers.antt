-- Each clause is a law over lists of cells.
use Rattle.law_line.proofs.CellSightAndLockLaws.{are_at_sights as are_at, are_locking, are_unknown}
use Rattle.law_line.proofs.sight_law.Goals as goal

pub returns-clause-at : goal.returns-clause-at
returns-clause-at c = are_at

pub returns-clause-locks : goal.returns-clause-locks
returns-clause-locks c = are_locking

pub returns-clause-unknown : goal.returns-clause-unknown
returns-clause-unknown c = are_unknown
