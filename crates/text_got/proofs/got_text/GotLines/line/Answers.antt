-- A line is written or waits.
use Rattle.text_got.specs.TextSoFar.{seen, told_of}
use Rattle.text_got.proofs.ToldTextGrowthLaws.{told-more}
use Rattle.text_got.proofs.got_text.GotLines.line.Goals as goal

pub returns-in-Ok : goal.returns-in-Ok
returns-in-Ok g c start before has =
    let now = c.args.self.now in (
      has.0,
      told-more g.K.ByteSink.written g.K.ByteSink.faults now.failed (seen (told_of start.octets) start.faults)
          now.out.now c.add.new.out now.block c.add.new.self before c.args.text.now
          c.if-self.false c.in-Ok.ensures.ok has.1,
    )
