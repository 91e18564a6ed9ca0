-- Workers that are here are later.
use Rattle.std.proofs.Common.{subst}
use Rattle.thread_alarms.specs.watched_line.ServedWithPosts.{IsServedLater}
use Rattle.thread_alarms.proofs.LaterServedLineLaws.{served-then}
use Rattle.thread_session.proofs.WorkerShareAndPairListLaws.{zip-then}
use Rattle.thread_session.specs.session_parts.HeldShares.{IsHeldOf}
use Rattle.thread_session.proofs.session_parts.line_thread.serve_here.Goals as goal

pub returns-in-Here-clause-held : goal.returns-in-Here-clause-held
returns-in-Here-clause-held g c =
    λ workers held. zip-then IsServedLater served-then _ _ _ (let h = subst (IsHeldOf workers) c.in-Here.is held in h)
    c.serve_once.ensures.later
