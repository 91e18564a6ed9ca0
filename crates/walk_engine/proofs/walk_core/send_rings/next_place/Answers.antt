-- No frame waits for a line where each line has carried all.
use Rattle.std.proofs.Common.{map, subst, sym, arith}
use Rattle.walk_engine.specs.Common.{line_counts, frame_in, HasSent}
use Rattle.walk_engine.proofs.LineCarryAndSendRingLaws.{sent-swapped}
use Rattle.walk_engine.proofs.walk_core.send_rings.next_place.Goals as goal

pub returns-then-are_carried-clause-has : goal.returns-then-are_carried-clause-has
returns-then-are_carried-clause-has c leg size has =
    let places = c.requires.places in
    subst (λ rows. HasSent leg c.args.ticks (map line_counts c.args.lines.now) (map frame_in rows))
    (sym c.swap.ensures.items)
    (sent-swapped leg c.args.ticks c.args.lines.now c.args.sent.now.items _ _ size has (omega (arith, places))
    (omega (arith, places)) (c.are_carried.ensures c.if-are_carried.true))
