-- The recursion meets the wording, and nothing else does.
use Rattle.law_line.proofs.CellSightAndLockLaws.{is_count, count_only}
use Rattle.law_line.proofs.DecidedPacketAndRowLaws.{are_whole, are_decided, end_decides}
use Rattle.law_line.proofs.reading_law.Goals as goal

pub returns-clause-worded : goal.returns-clause-worded
returns-clause-worded c = is_count

pub returns-clause-only : goal.returns-clause-only
returns-clause-only c cells dec more is = count_only cells more dec is

pub returns-clause-whole : goal.returns-clause-whole
returns-clause-whole c = are_whole

pub returns-clause-decided : goal.returns-clause-decided
returns-clause-decided c = are_decided

pub returns-clause-end : goal.returns-clause-end
returns-clause-end c = end_decides
