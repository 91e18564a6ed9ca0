-- Bursts after bursts.
use Rattle.thread_alarms.specs.watched_line.ServedWithPosts.{IsServedLater}
use Rattle.thread_alarms.proofs.LaterServedLineLaws.{served-refl, served-then}
use Rattle.thread_session.proofs.WorkerShareAndPairListLaws.{zip-refl, zip-then}
use Rattle.thread_session.proofs.session_parts.line_thread.serve.Goals as goal

pub loop-init : goal.loop-init
loop-init g c = zip-refl IsServedLater served-refl _

pub loop-preserved : goal.loop-preserved
loop-preserved g c = zip-then IsServedLater served-then _ _ _ c.loop.invariant c.serve_once-served.ensures.later

pub returns-then-eq-clause-later : goal.returns-then-eq-clause-later
returns-then-eq-clause-later g c = zip-then IsServedLater served-then _ _ _ c.loop.invariant c.serve_once-served.ensures.later
