-- A worker that is not served is as it was.
use Rattle.thread_alarms.proofs.LaterServedLineLaws.{served-refl}
use Rattle.thread_session.proofs.session_parts.line_thread.serve_one.Goals as goal

pub returns-then-is_some-clause-later : goal.returns-then-is_some-clause-later
returns-then-is_some-clause-later g c = served-refl _
