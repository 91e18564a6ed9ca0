-- The line of the way there, and then that of the way back.
use Rattle.std.proofs.lemmas.Result.{on_err_weaker, on_ok_weaker}
use Rattle.law_pair.specs.declared.pair_events.Way.TheVariants.{There, Back}
use Rattle.law_live.specs.Common.{total_way_text}
use Rattle.walk_live.proofs.TimedLineWritingLaws.{holds-more, part-longer, part-more}
use Rattle.pair_live.proofs.way_lines.tell_both_totals.Goals as goal

pub returns-in-Ok-clause-told : goal.returns-in-Ok-clause-told
returns-in-Ok-clause-told g c =
    on_ok_weaker c.tell_totals-in-Ok.result
    (holds-more g.K.ByteSink.written g.K.ByteSink.faults c.args.out.now c.tell_totals.new.out
    c.tell_totals-in-Ok.new.out c.args.block.now c.tell_totals.new.block c.tell_totals-in-Ok.new.block
    (total_way_text There c.args.there.now) (total_way_text Back c.args.back.now) c.in-Ok.ensures.told)
    c.tell_totals-in-Ok.ensures.told

pub returns-in-Ok-clause-part : goal.returns-in-Ok-clause-part
returns-in-Ok-clause-part g c =
    on_err_weaker c.tell_totals-in-Ok.result
    (part-more g.K.ByteSink.written g.K.ByteSink.faults c.args.out.now c.tell_totals.new.out
    c.tell_totals-in-Ok.new.out c.args.block.now c.tell_totals.new.block (total_way_text There c.args.there.now)
    (total_way_text Back c.args.back.now) c.in-Ok.ensures.told)
    c.tell_totals-in-Ok.ensures.part

pub returns-in-Err-clause-part : goal.returns-in-Err-clause-part
returns-in-Err-clause-part g c =
    part-longer g.K.ByteSink.written g.K.ByteSink.faults c.args.out.now c.tell_totals.new.out c.args.block.now
    (total_way_text There c.args.there.now) (total_way_text Back c.args.back.now) c.in-Err.ensures.part
