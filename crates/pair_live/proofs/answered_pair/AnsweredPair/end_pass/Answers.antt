-- The line of each queue, and then that of the ticks.
use Rattle.std.proofs.Common.{◌++◌}
use Rattle.std.proofs.lemmas.Result.{on_err_weaker, on_ok_weaker}
use Rattle.law_pair.specs.declared.pair_events.Way.TheVariants.{There, Back}
use Rattle.law_live.specs.Common.{now_text}
use Rattle.walk_live.proofs.TimedLineWritingLaws.{holds-more, part-longer, part-more}
use Rattle.pair_live.specs.PairReplies.{queue_lines_on}
use Rattle.pair_live.proofs.PairLoopLaws.{waits-each}
use Rattle.pair_live.proofs.answered_pair.AnsweredPair.end_pass.Goals as goal

pub returns-in-Err-clause-waits : goal.returns-in-Err-clause-waits
returns-in-Err-clause-waits g c one other lives =
    waits-each c.args.self.now c.waiting-self.result c.waiting-self-2.result one other
    (c.waiting-self.ensures.waits one other lives) (c.waiting-self-2.ensures.waits one other lives)

pub returns-in-Ok-tell_queue-clause-waits : goal.returns-in-Ok-tell_queue-clause-waits
returns-in-Ok-tell_queue-clause-waits g c one other lives =
    waits-each c.args.self.now c.waiting-self.result c.waiting-self-2.result one other
    (c.waiting-self.ensures.waits one other lives) (c.waiting-self-2.ensures.waits one other lives)

pub returns-in-Err-tell_queue-clause-waits : goal.returns-in-Err-tell_queue-clause-waits
returns-in-Err-tell_queue-clause-waits g c one other lives =
    waits-each c.args.self.now c.waiting-self.result c.waiting-self-2.result one other
    (c.waiting-self.ensures.waits one other lives) (c.waiting-self-2.ensures.waits one other lives)

pub returns-in-Err-clause-part : goal.returns-in-Err-clause-part
returns-in-Err-clause-part g c =
    let self = c.args.self.now in
    part-longer g.K.ByteSink.written g.K.ByteSink.faults c.args.out.now c.tell_queue.new.out c.args.block.now
    (queue_lines_on self.tells There self.there.waiting c.waiting-self.result)
    (queue_lines_on self.tells Back self.back.waiting c.waiting-self-2.result ++ now_text c.args.ticks)
    c.in-Err.ensures.part

pub returns-in-Err-tell_queue-clause-part : goal.returns-in-Err-tell_queue-clause-part
returns-in-Err-tell_queue-clause-part g c =
    let self = c.args.self.now in
    part-more g.K.ByteSink.written g.K.ByteSink.faults c.args.out.now c.tell_queue.new.out c.tell_queue-2.new.out
    c.args.block.now c.tell_queue.new.block (queue_lines_on self.tells There self.there.waiting c.waiting-self.result)
    (queue_lines_on self.tells Back self.back.waiting c.waiting-self-2.result ++ now_text c.args.ticks)
    c.in-Ok.ensures.told
    (part-longer g.K.ByteSink.written g.K.ByteSink.faults c.tell_queue.new.out c.tell_queue-2.new.out
    c.tell_queue.new.block (queue_lines_on self.tells Back self.back.waiting c.waiting-self-2.result)
    (now_text c.args.ticks) c.in-Err-tell_queue.ensures.part)

pub returns-in-Ok-tell_queue-clause-told : goal.returns-in-Ok-tell_queue-clause-told
returns-in-Ok-tell_queue-clause-told g c =
    let self = c.args.self.now in
    let back = queue_lines_on self.tells Back self.back.waiting c.waiting-self-2.result in
    on_ok_weaker c.tell_now.result
    (λ more. holds-more g.K.ByteSink.written g.K.ByteSink.faults c.args.out.now c.tell_queue.new.out c.tell_now.new.out
    c.args.block.now c.tell_queue.new.block c.tell_now.new.block
    (queue_lines_on self.tells There self.there.waiting c.waiting-self.result) (back ++ now_text c.args.ticks)
    c.in-Ok.ensures.told
    (holds-more g.K.ByteSink.written g.K.ByteSink.faults c.tell_queue.new.out c.tell_queue-2.new.out c.tell_now.new.out
    c.tell_queue.new.block c.tell_queue-2.new.block c.tell_now.new.block back (now_text c.args.ticks)
    c.in-Ok-tell_queue.ensures.told more))
    c.tell_now.ensures.told

pub returns-in-Ok-tell_queue-clause-part : goal.returns-in-Ok-tell_queue-clause-part
returns-in-Ok-tell_queue-clause-part g c =
    let self = c.args.self.now in
    let back = queue_lines_on self.tells Back self.back.waiting c.waiting-self-2.result in
    on_err_weaker c.tell_now.result
    (λ stops. part-more g.K.ByteSink.written g.K.ByteSink.faults c.args.out.now c.tell_queue.new.out c.tell_now.new.out
    c.args.block.now c.tell_queue.new.block
    (queue_lines_on self.tells There self.there.waiting c.waiting-self.result) (back ++ now_text c.args.ticks)
    c.in-Ok.ensures.told
    (part-more g.K.ByteSink.written g.K.ByteSink.faults c.tell_queue.new.out c.tell_queue-2.new.out c.tell_now.new.out
    c.tell_queue.new.block c.tell_queue-2.new.block back (now_text c.args.ticks) c.in-Ok-tell_queue.ensures.told stops))
    c.tell_now.ensures.part
