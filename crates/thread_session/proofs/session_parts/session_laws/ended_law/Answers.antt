-- A sink that has taken all rows.
use Rattle.thread_session.proofs.SessionEndByScriptLaws.{made-session, frames-session, backs-session}
use Rattle.thread_session.proofs.session_parts.session_laws.ended_law.Goals as goal

pub returns-clause-made : goal.returns-clause-made
returns-clause-made c = made-session

pub returns-clause-frames : goal.returns-clause-frames
returns-clause-frames c = frames-session

pub returns-clause-backs : goal.returns-clause-backs
returns-clause-backs c = backs-session
