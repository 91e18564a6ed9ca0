-- What arrives whole.
use Rattle.law_session.proofs.UpLineAndReadablePacketLaws.{good-whole, readable-whole, heard-line}
use Rattle.law_session.proofs.packets_that_arrive.readable_law.Goals as goal

pub returns-clause-good : goal.returns-clause-good
returns-clause-good c = good-whole

pub returns-clause-readable : goal.returns-clause-readable
returns-clause-readable c = readable-whole

pub returns-clause-heard : goal.returns-clause-heard
returns-clause-heard c = heard-line
