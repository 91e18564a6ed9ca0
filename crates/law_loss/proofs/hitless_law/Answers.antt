-- A session without failures.
use Rattle.law_loss.proofs.SessionStreamLossLaws.{undamaged-whole, session-hitless, session-prefix}
use Rattle.law_loss.proofs.hitless_law.Goals as goal

pub returns-clause-whole : goal.returns-clause-whole
returns-clause-whole c = undamaged-whole

pub returns-clause-delivered : goal.returns-clause-delivered
returns-clause-delivered c = session-hitless

pub returns-clause-first : goal.returns-clause-first
returns-clause-first c = session-prefix
