-- The step of the way there, and then that of the way back.
use Rattle.std.proofs.lemmas.Result.{on_err_weaker, on_ok_weaker}
use Rattle.law_pair.specs.declared.pair_events.Way.TheVariants.{There, Back}
use Rattle.walk_live.proofs.TimedLineWritingLaws.{holds-more, part-longer, part-more}
use Rattle.pair_engine.specs.LivePairs.{walking_counts}
use Rattle.pair_live.specs.PairPassing.{steps_text_on}
use Rattle.pair_live.proofs.answered_pair.AnsweredPair.tell_steps.Goals as goal

pub returns-in-Ok-clause-told : goal.returns-in-Ok-clause-told
returns-in-Ok-clause-told g c one other lives lines has has_back =
    let self = c.args.self.now in
    let now = (walking_counts self.pair).there.ticks in
    on_ok_weaker c.tell_step-in-Ok.result
    (holds-more g.K.ByteSink.written g.K.ByteSink.faults c.args.out.now c.tell_step.new.out c.tell_step-in-Ok.new.out
    c.args.block.now c.tell_step.new.block c.tell_step-in-Ok.new.block
    (steps_text_on self.tells one other There c.args.before now)
    (steps_text_on self.tells one other Back c.args.before now) (c.in-Ok.ensures.told one other lives lines has))
    (c.tell_step-in-Ok.ensures.told one other lives lines has_back)

pub returns-in-Ok-clause-part : goal.returns-in-Ok-clause-part
returns-in-Ok-clause-part g c one other lives lines has has_back =
    let self = c.args.self.now in
    let now = (walking_counts self.pair).there.ticks in
    on_err_weaker c.tell_step-in-Ok.result
    (part-more g.K.ByteSink.written g.K.ByteSink.faults c.args.out.now c.tell_step.new.out c.tell_step-in-Ok.new.out
    c.args.block.now c.tell_step.new.block (steps_text_on self.tells one other There c.args.before now)
    (steps_text_on self.tells one other Back c.args.before now) (c.in-Ok.ensures.told one other lives lines has))
    (c.tell_step-in-Ok.ensures.part one other lives lines has_back)

pub returns-in-Err-clause-part : goal.returns-in-Err-clause-part
returns-in-Err-clause-part g c one other lives lines has has_back =
    let self = c.args.self.now in
    let now = (walking_counts self.pair).there.ticks in
    part-longer g.K.ByteSink.written g.K.ByteSink.faults c.args.out.now c.tell_step.new.out c.args.block.now
    (steps_text_on self.tells one other There c.args.before now)
    (steps_text_on self.tells one other Back c.args.before now) (c.in-Err.ensures.part one other lives lines has)
