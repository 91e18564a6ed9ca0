-- What is sent of what is there.
use Rattle.std.proofs.Common.{take, arith, length-take-le}
use Rattle.member_au4.proofs.SourceSendSteps.{asks-sent}
use Rattle.member_au4.proofs.au4_pointer.pointer_source.PointerSource.fill_some.Goals as goal

pub returns-clause-asks : goal.returns-clause-asks
returns-clause-asks g c =
    let n = c.send_some.result in
    let piece = c.send_some.new.piece in
    asks-sent (λ f. g.V.VcFeed.stands_for f) c.args.feed.now c.refill.new.feed c.args.self.now.rest
    c.refill.new.self.rest c.send_some.new.self.rest (take n piece)
    c.refill.ensures.refills c.send_some.ensures.sent (omega (
      arith,
      length-take-le n piece (omega (arith, c.send_some.ensures.within, c.send_some.auto.piece)),
      c.send_some.ensures.some,
    ))
