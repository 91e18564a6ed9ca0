-- The line of a frame is written or waits.
use Rattle.std.proofs.Common.{refl}
use Rattle.walk_live.specs.TimedWriting.{got_words, worded_text}
use Rattle.walk_live.proofs.TimedLineWritingLaws.{has-more, more-failed, more-stopped, more-told}
use Rattle.walk_live.proofs.timed_lines.TimedLinesFrameOut.frame.Goals as goal

pub returns-then-self : goal.returns-then-self
returns-then-self g c start frames has =
    let now = c.args.self.now in
    has-more g.K.ByteSink.written g.K.ByteSink.faults now now start frames c.args.frame.now
    (record { out = refl; block = refl; whose = refl; ticks = refl })
    (more-stopped g.K.ByteSink.written g.K.ByteSink.faults now
    (worded_text (got_words now.whose) now.ticks c.args.frame.now) c.if-self.true) has

pub returns-in-Ok : goal.returns-in-Ok
returns-in-Ok g c start frames has =
    let now = c.args.self.now in
    has-more g.K.ByteSink.written g.K.ByteSink.faults now _ start frames c.args.frame.now
    (record { out = refl; block = refl; whose = refl; ticks = refl })
    (more-told g.K.ByteSink.written g.K.ByteSink.faults now.failed now.out.now c.add_timed.new.out now.block.now
    c.add_timed.new.block (worded_text (got_words now.whose) now.ticks c.args.frame.now) c.if-self.false
    c.in-Ok.ensures.ok) has

pub returns-in-Err : goal.returns-in-Err
returns-in-Err g c start frames has =
    let now = c.args.self.now in
    has-more g.K.ByteSink.written g.K.ByteSink.faults now _ start frames c.args.frame.now
    (record { out = refl; block = refl; whose = refl; ticks = refl })
    (more-failed g.K.ByteSink.written g.K.ByteSink.faults now.failed now.out.now c.add_timed.new.out now.block.now
    (worded_text (got_words now.whose) now.ticks c.args.frame.now) c.if-self.false c.in-Err.ensures.err) has
