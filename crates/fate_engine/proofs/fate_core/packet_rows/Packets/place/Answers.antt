-- The place of a row among those of its run.
use Rattle.std.proofs.Common.{◌+◌, ◌*◌, sym, ◌∙◌, ap₂, arith}
use Rattle.fate_engine.proofs.PacketRowPlaceLaws.{place-none, place-in}
use Rattle.fate_engine.proofs.fate_core.packet_rows.Packets.place.Goals as goal

pub returns-then-row-le-FIRST : goal.returns-then-row-le-FIRST
returns-then-row-le-FIRST c = λ scenario cells are. sym (place-none scenario cells c.args.row c.if-row-le-FIRST.true)

pub returns : goal.returns
returns c = λ scenario cells are.
    ap₂ (λ n w. c.run_of-run.result.now.start + n * w) c.from.ensures c.width.ensures
    ∙ sym (place-in scenario cells c.args.self.now are c.run_of-run.result.now c.run_of-run.ensures.run c.args.row
    (let from = c.run_of-run.ensures.from in omega (arith, from))
    (let below = c.run_of-run.ensures.below in omega (arith, below, c.if-row-le-FIRST.false)))
