-- The line of a frame is written or waits.
use Rattle.std.proofs.Common.{subst}
use Rattle.text_report.specs.ReportLines.{got_text, got_texts}
use Rattle.text_got.specs.TextSoFar.{WritesOrWaits, seen, told_of}
use Rattle.text_got.proofs.ToldTextGrowthLaws.{texts-more, told-stopped, told-more}
use Rattle.text_got.proofs.got_text.GotLinesFrameOut.frame.Goals as goal

pub returns-then-self : goal.returns-then-self
returns-then-self g c start frames has =
    let now = c.args.self.now in
    let first = seen (told_of start.octets) start.faults in
    let last = seen (g.K.ByteSink.written now.out.now) (g.K.ByteSink.faults now.out.now) in (
      has.0,
      subst (WritesOrWaits now.failed first last now.block) (texts-more frames c.args.frame.now)
          (told-stopped now.failed first last now.block now.block (got_texts frames)
          (got_text c.args.frame.now) c.if-self.true has.1),
    )

pub returns-in-Ok : goal.returns-in-Ok
returns-in-Ok g c start frames has =
    let now = c.args.self.now in
    let first = seen (told_of start.octets) start.faults in
    let last = seen (g.K.ByteSink.written c.add_got.new.out) (g.K.ByteSink.faults c.add_got.new.out) in (
      has.0,
      subst (WritesOrWaits now.failed first last c.add_got.new.self) (texts-more frames c.args.frame.now)
          (told-more g.K.ByteSink.written g.K.ByteSink.faults now.failed first now.out.now c.add_got.new.out now.block
          c.add_got.new.self (got_texts frames) (got_text c.args.frame.now)
          c.if-self.false c.in-Ok.ensures.ok has.1),
    )
