-- Which packets of a line count.
use Rattle.law_session.proofs.UpLineAndReadablePacketLaws.{up-is, up-plain, up-prefix, last-read}
use Rattle.law_session.proofs.members_with_timers.up_law.Goals as goal

pub returns-clause-up : goal.returns-clause-up
returns-clause-up c = up-is

pub returns-clause-plain : goal.returns-clause-plain
returns-clause-plain c = up-plain

pub returns-clause-prefix : goal.returns-clause-prefix
returns-clause-prefix c = up-prefix

pub returns-clause-last : goal.returns-clause-last
returns-clause-last c = last-read
