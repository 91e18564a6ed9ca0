-- Lines that have come to their end.
use Rattle.thread_session.proofs.SessionEndByScriptLaws.{line-ended, all-come}
use Rattle.thread_session.proofs.session_parts.session_laws.gathered_law.Goals as goal

pub returns-clause-lines : goal.returns-clause-lines
returns-clause-lines c = line-ended

pub returns-clause-come : goal.returns-clause-come
returns-clause-come c = all-come
