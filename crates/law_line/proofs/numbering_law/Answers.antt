-- The cells of a line, read to their end.
use Rattle.law_line.proofs.ReadingVerdictLaws.{are_numbered, are_in_step, are_expected}
use Rattle.law_line.proofs.ContainerLockAndSlipLaws.{readable-good, good-readable}
use Rattle.law_line.proofs.DecidedPacketAndRowLaws.{are_readable}
use Rattle.law_line.proofs.CellSightAndLockLaws.{are_at}
use Rattle.law_line.proofs.DecidedPacketAndRowLaws.{are_read}
use Rattle.law_line.proofs.numbering_law.Goals as goal

pub returns-clause-numbered : goal.returns-clause-numbered
returns-clause-numbered c = are_numbered

pub returns-clause-at : goal.returns-clause-at
returns-clause-at c = are_at

pub returns-clause-in_step : goal.returns-clause-in_step
returns-clause-in_step c = are_in_step

pub returns-clause-due : goal.returns-clause-due
returns-clause-due c = are_expected

pub returns-clause-packets : goal.returns-clause-packets
returns-clause-packets c carries k = (readable-good carries k, good-readable carries k)

pub returns-clause-readable : goal.returns-clause-readable
returns-clause-readable c = are_readable

pub returns-clause-read : goal.returns-clause-read
returns-clause-read c = are_read
