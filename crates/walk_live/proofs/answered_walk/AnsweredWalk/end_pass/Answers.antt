-- The line of the queue, and then that of the ticks.
use Rattle.std.proofs.Common.{◌∙◌}
use Rattle.std.proofs.lemmas.Result.{on_err_weaker, on_ok_weaker}
use Rattle.law_live.specs.Common.{now_text}
use Rattle.walk_engine.proofs.TickAndFullRingLaws.{waiting-after}
use Rattle.walk_live.proofs.TimedLineWritingLaws.{holds-more, part-longer, part-more}
use Rattle.walk_live.proofs.answered_walk.AnsweredWalk.end_pass.Goals as goal

pub returns-in-Ok-clause-told : goal.returns-in-Ok-clause-told
returns-in-Ok-clause-told g c =
    on_ok_weaker c.tell_now.result
    (holds-more g.K.ByteSink.written g.K.ByteSink.faults c.args.out.now c.tell_queue.new.out c.tell_now.new.out
    c.args.block.now c.tell_queue.new.block c.tell_now.new.block _ _ c.in-Ok.ensures.told)
    c.tell_now.ensures.told

pub returns-in-Ok-clause-part : goal.returns-in-Ok-clause-part
returns-in-Ok-clause-part g c =
    on_err_weaker c.tell_now.result
    (part-more g.K.ByteSink.written g.K.ByteSink.faults c.args.out.now c.tell_queue.new.out c.tell_now.new.out
    c.args.block.now c.tell_queue.new.block _ _ c.in-Ok.ensures.told)
    c.tell_now.ensures.part

pub returns-in-Err-clause-part : goal.returns-in-Err-clause-part
returns-in-Err-clause-part g c =
    part-longer g.K.ByteSink.written g.K.ByteSink.faults c.args.out.now c.tell_queue.new.out c.args.block.now _
    (now_text c.args.ticks) c.in-Err.ensures.part

pub returns-in-Ok-clause-waits : goal.returns-in-Ok-clause-waits
returns-in-Ok-clause-waits g c leg stands =
    (rw (c.queue.ensures, c.core.ensures, c.source.ensures, c.way.ensures.way) at c.waiting-self.ensures.count)
    ∙ waiting-after leg _ _ stands.stands

pub returns-in-Err-clause-waits : goal.returns-in-Err-clause-waits
returns-in-Err-clause-waits g c leg stands =
    (rw (c.queue.ensures, c.core.ensures, c.source.ensures, c.way.ensures.way) at c.waiting-self.ensures.count)
    ∙ waiting-after leg _ _ stands.stands
