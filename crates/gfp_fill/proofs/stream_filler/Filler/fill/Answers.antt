-- What is written first, and then what is written in the loop's next turn, are the next octets.
use Rattle.std.proofs.Common.{take, arith, length, ◌+◌}
use Rattle.law_model.proofs.ListLaws.{take-written}
use Rattle.gfp_fill.proofs.SenderAndFillerStepLaws.{written-none, written-both}
use Rattle.gfp_fill.proofs.stream_filler.Filler.fill.Goals as goal

pub loop-filled-init : goal.loop-filled-init
loop-filled-init g c = record {
  within = omega arith;
  writes = λ stream place stands. written-none g.Q.WaitingFrames.order c.order_law.ensures c.args.self.now
      c.args.waiting.now stream place stands;
}

pub loop-filled-preserved : goal.loop-filled-preserved
loop-filled-preserved g c =
    let order = g.Q.WaitingFrames.order in
    let at = c.loop-filled.filled in
    let n = c.fill_some-filled.result in
    let out = c.loop-filled.out in
    let part = c.fill_some-filled.new.out in
    record {
      within = omega (arith, c.fill_some-filled.ensures.within);
      writes = λ stream place stands.
          let so_far = c.loop-filled.invariant.writes stream place stands in
          rw (take-written at n out part _ c.loop-filled.invariant.within
          (omega (arith, c.fill_some-filled.ensures.within, c.fill_some-filled.auto.out)))
          (written-both order c.order_law.ensures c.loop-filled.local c.fill_some-filled.new.self
          c.loop-filled.waiting c.fill_some-filled.new.waiting stream place (take at out) (take n part) so_far
          (c.fill_some-filled.ensures.writes (order.reached (place + length (take at out)) stream)
          (place + length (take at out)) so_far.stands));
    }
