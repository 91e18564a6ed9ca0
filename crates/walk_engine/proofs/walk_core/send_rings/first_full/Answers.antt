-- The first line whose ring is full, or none.
use Rattle.std.proofs.Common.{sym, ◌∙◌, arith}
use Rattle.law_model.proofs.ListLaws.{at-index}
use Rattle.walk_engine.proofs.TickAndFullRingLaws.{full-here, full-next, full-none}
use Rattle.walk_engine.proofs.walk_core.send_rings.first_full.Goals as goal

pub returns-then-ticks-min-ge-SENDS : goal.returns-then-ticks-min-ge-SENDS
returns-then-ticks-min-ge-SENDS c =
    let there = at-index c.args.lines.now c.loop-m.m c.index-lines-m.result c.loop-m-test.true c.index-lines-m.is in
    let high = c.if-ticks-min-ge-SENDS.true in
    let least = c.min.ensures in
    let carried = c.carried.ensures in
    sym (full-here c.args.total c.args.ticks c.args.lines.now c.loop-m.m c.index-lines-m.result there
    (omega (arith, high, least, carried))) ∙ c.loop-m.invariant

pub loop-m-preserved : goal.loop-m-preserved
loop-m-preserved c =
    let there = at-index c.args.lines.now c.loop-m.m c.index-lines-m.result c.loop-m-test.true c.index-lines-m.is in
    let low = c.if-ticks-min-ge-SENDS.false in
    let least = c.min.ensures in
    let carried = c.carried.ensures in
    full-next c.args.total c.args.ticks c.args.lines.now c.loop-m.m c.index-lines-m.result there
    (omega (arith, low, least, carried)) ∙ c.loop-m.invariant

pub returns : goal.returns
returns c =
    let past = c.loop-m-test.false in
    sym (full-none c.args.total c.args.ticks c.args.lines.now c.loop-m.m past) ∙ c.loop-m.invariant
