-- The sink has run on.
use Rattle.thread_session.proofs.SessionRingEndsAndSinkRunLaws.{run-then}
use Rattle.thread_session.proofs.session_run.finish_in_turn.round.Goals as goal

pub returns-then-carried-clause-run : goal.returns-then-carried-clause-run
returns-then-carried-clause-run g c = λ begun run.
    run-then _ g.K.ByteSink.faults begun c.args.sink.now c.burst.new.self c.args.out.now c.burst.new.out
    (c.burst.ensures.stands run.stands) c.burst.ensures.later (c.burst.ensures.written run.stands) run

pub returns-else-carried-clause-run : goal.returns-else-carried-clause-run
returns-else-carried-clause-run g c = λ begun run.
    run-then _ g.K.ByteSink.faults begun c.args.sink.now c.burst.new.self c.args.out.now c.burst.new.out
    (c.burst.ensures.stands run.stands) c.burst.ensures.later (c.burst.ensures.written run.stands) run
