-- The workers are later than those that were given.
use Rattle.thread_alarms.specs.watched_line.ServedWithPosts.{AreServedLater}
use Rattle.thread_session.proofs.session_parts.line_thread.serve.Given as goal

abbrev pub invariant-loop : goal.invariant-loop
invariant-loop g l = AreServedLater l.fn.workers.items l.workers.items
