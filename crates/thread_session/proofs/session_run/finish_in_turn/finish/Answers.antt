-- Each round goes on where the last one ended.
use Rattle.thread_alarms.specs.watched_line.ServedWithPosts.{IsServedLater}
use Rattle.thread_alarms.proofs.LaterServedLineLaws.{served-refl, served-then}
use Rattle.thread_session.proofs.WorkerShareAndPairListLaws.{zip-refl, zip-then}
use Rattle.thread_session.proofs.session_run.finish_in_turn.finish.Goals as goal

pub loop-init : goal.loop-init
loop-init g c = record { lines = zip-refl IsServedLater served-refl _; run = λ begun run. run }

pub loop-preserved : goal.loop-preserved
loop-preserved g c = record {
  lines = zip-then IsServedLater served-then _ _ _ c.loop.invariant.lines c.round.ensures.lines;
  run = λ begun first. c.round.ensures.run begun (c.loop.invariant.run begun first);
}

pub returns-then-round-clause-lines : goal.returns-then-round-clause-lines
returns-then-round-clause-lines g c =
    zip-then IsServedLater served-then _ _ _ c.loop.invariant.lines c.round.ensures.lines

pub returns-then-round-clause-run : goal.returns-then-round-clause-run
returns-then-round-clause-run g c = λ begun first. c.round.ensures.run begun (c.loop.invariant.run begun first)
