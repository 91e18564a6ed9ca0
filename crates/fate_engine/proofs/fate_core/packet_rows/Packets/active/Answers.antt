-- The lines of the packet's run.
use Rattle.std.proofs.Common.{sym, ◌∙◌, arith}
use Rattle.fate_engine.proofs.PacketRowPlaceLaws.{packet-lines}
use Rattle.fate_engine.proofs.fate_core.packet_rows.Packets.active.Goals as goal

pub returns-clause-lines : goal.returns-clause-lines
returns-clause-lines c = λ scenario cells are.
    let run = c.run_of.ensures.run in
    c.deref.ensures.0
    ∙ sym (packet-lines scenario cells c.args.self.now are c.run_of.result.now run c.args.packet
    (let from = c.run_of.ensures.from in omega (arith, from))
    (let below = c.run_of.ensures.below in omega (arith, below)))
    ∙ are.lines c.args.packet c.requires
