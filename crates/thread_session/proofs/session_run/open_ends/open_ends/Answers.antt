-- The ends of the return ring lie beside each other.
use Rattle.thread_session.proofs.session_run.open_ends.open_ends.Goals as goal

pub returns-in-Ok-clause-returns : goal.returns-in-Ok-clause-returns
returns-in-Ok-clause-returns c = rw (c.in_ok-group.ensures.ends.1, c.in-Ok.ensures.ends.1) c.in_ok-back.ensures.ends
