-- A burst goes on where the sink was, and says whether a row was taken or a cell popped.
use Rattle.std.proofs.Common.{◌≡◌, ◌+◌, ◌<◌, ◌∙◌, ap, subst, arith, inl, inr}
use Rattle.thread_sink.specs.SinkParts.{Parts, Progress, Rests, Does}
use Rattle.thread_sink.specs.ReceivedByRings.{popped}
use Rattle.thread_sink.specs.declared.sink_worker.SinkWorker.{SinkWorker}
use Rattle.thread_sink.specs.declared.burst_answers.SinkBurst.{SinkBurst}
use Rattle.thread_sink.specs.declared.burst_answers.SinkBurst.TheVariants.{Idle}
use Rattle.thread_sink.specs.declared.burst_answers.SinkIdle.{SinkIdle}
use Rattle.thread_sink.specs.declared.burst_answers.SinkIdle.TheVariants.{Waiting, BackFull}
use Rattle.thread_sink.specs.WorkerOfSink.{parts_of, cells_of, taken_of, IsLater}
use Rattle.thread_session.specs.session_parts.Duty.{Begun}
use Rattle.thread_session.proofs.SessionRingEndsAndSinkRunLaws.{StandsFor, run-then, log-then}
use Rattle.thread_session.proofs.session_parts.sink_duty.SinkDutyDuty.turn.Given as given
use Rattle.thread_session.proofs.session_parts.sink_duty.SinkDutyDuty.turn.Goals as goal
use Rattle.thread_session.proofs.session_parts.sink_duty.SinkDutyDuty.turn.Goals.{After-burst}

goes-on : (g : given.Over) (c : After-burst g) (begun : Begun) →
    StandsFor g.K.ByteSink.written g.K.ByteSink.faults begun c.args.self.now.out.ghost_name c.args.self.now.sink
    c.args.self.now.out.now c.args.self.now.log →
    StandsFor g.K.ByteSink.written g.K.ByteSink.faults begun c.args.self.now.out.ghost_name c.burst.new.self
    c.burst.new.out c.turn_log.new.log
goes-on g c begun run = (
  run.0,
  run-then g.K.ByteSink.written g.K.ByteSink.faults begun c.args.self.now.sink c.burst.new.self c.args.self.now.out.now
      c.burst.new.out
      (c.burst.ensures.stands run.1.stands) c.burst.ensures.later (c.burst.ensures.written run.1.stands) run.1,
  log-then begun.log c.args.self.now.log c.turn_log.new.log run.2 c.turn_log.ensures,
)

pub returns-in-Moved-clause-stands : goal.returns-in-Moved-clause-stands
returns-in-Moved-clause-stands g c = goes-on g (goal.at.returns-in-Moved-clause-stands g c).After-burst

pub returns-in-Idle-clause-stands : goal.returns-in-Idle-clause-stands
returns-in-Idle-clause-stands g c = goes-on g (goal.at.returns-in-Idle-clause-stands g c).After-burst

pub returns-in-Done-clause-stands : goal.returns-in-Done-clause-stands
returns-in-Done-clause-stands g c = goes-on g (goal.at.returns-in-Done-clause-stands g c).After-burst

more-steps : (a b : SinkWorker) → IsLater a b → Progress (parts_of a) (parts_of b) →
    taken_of a + popped (cells_of a) < taken_of b + popped (cells_of b)
more-steps a b later (inl taken) = let cells = later.1.popped in omega arith
more-steps a b later (inr cells) = let taken = later.1.taken in omega arith

idle-rests : (a b : Parts) (why : SinkIdle) → Does a b (Idle why) → Rests a b
idle-rests a b (Waiting line) does = does.0
idle-rests a b BackFull does = does.0

same-steps : (a b : SinkWorker) → Rests (parts_of a) (parts_of b) →
    taken_of b + popped (cells_of b) ≡ taken_of a + popped (cells_of a)
same-steps a b rests =
    ap (λ n. n + popped (cells_of b)) (ap (λ core. core.taken) rests.0) ∙ ap (λ l. taken_of a + popped l) rests.1

pub returns-in-Moved-clause-moved : goal.returns-in-Moved-clause-moved
returns-in-Moved-clause-moved g c = λ begun run told.
    more-steps c.args.self.now.sink c.burst.new.self c.burst.ensures.later
    (subst (Does (parts_of c.args.self.now.sink) (parts_of c.burst.new.self)) c.in-Moved.is
    (c.burst.ensures.does run.1.stands))

pub returns-in-Idle-clause-waits : goal.returns-in-Idle-clause-waits
returns-in-Idle-clause-waits g c = λ begun run told.
    same-steps c.args.self.now.sink c.burst.new.self
    (idle-rests (parts_of c.args.self.now.sink) (parts_of c.burst.new.self) _
    (subst (Does (parts_of c.args.self.now.sink) (parts_of c.burst.new.self)) c.in-Idle.is
    (c.burst.ensures.does run.1.stands)))
