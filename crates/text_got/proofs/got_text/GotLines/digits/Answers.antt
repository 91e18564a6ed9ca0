-- The digits are written or wait.
use Rattle.hex.specs.Hex.{encode_lower}
use Rattle.text_got.specs.TextSoFar.{seen, told_of}
use Rattle.text_got.proofs.ToldTextGrowthLaws.{told-more}
use Rattle.text_got.proofs.got_text.GotLines.digits.Goals as goal

pub returns-in-Ok : goal.returns-in-Ok
returns-in-Ok g c start before has =
    let now = c.args.self.now in (
      has.0,
      told-more g.K.ByteSink.written g.K.ByteSink.faults now.failed (seen (told_of start.octets) start.faults)
          now.out.now c.add_hex.new.out now.block c.add_hex.new.self before (encode_lower c.args.octets.now)
          c.if-self.false c.in-Ok.ensures.ok has.1,
    )
