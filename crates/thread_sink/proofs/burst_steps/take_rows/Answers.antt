-- The first step, and those after it.
use Rattle.thread_sink.proofs.SinkStepAndFrameLaws.{later-then, gives-then}
use Rattle.thread_sink.proofs.burst_steps.take_rows.Goals as goal

pub returns-clause-later : goal.returns-clause-later
returns-clause-later g c =
    later-then _ _ _ c.step-first.ensures.later c.go_on.ensures.later

pub returns-clause-gives : goal.returns-clause-gives
returns-clause-gives g c keeps =
    gives-then g.F.FrameOut.stands_for c.args.out.now c.step-first.new.out c.go_on.new.out _ _ _
    (c.step-first.ensures.keeps keeps) c.step-first.ensures.later c.go_on.ensures.later
    (c.step-first.ensures.gives keeps) (c.go_on.ensures.gives (c.step-first.ensures.keeps keeps))
