-- Out and back, in rows.
use Rattle.law_session.proofs.FailedLinePayloadLaws.{rows-out, rows-back}
use Rattle.law_session.proofs.members_with_timers.flap_law.Goals as goal

pub returns-clause-out : goal.returns-clause-out
returns-clause-out c = rows-out

pub returns-clause-back : goal.returns-clause-back
returns-clause-back c = rows-back
