-- The row is as wide as its run has lines.
use Rattle.std.proofs.Common.{sym, ◌∙◌}
use Rattle.fate_engine.proofs.PacketRowPlaceLaws.{run-width}
use Rattle.fate_engine.proofs.fate_core.packet_rows.Packets.width_in.Goals as goal

pub returns-clause-width : goal.returns-clause-width
returns-clause-width c = λ scenario cells are.
    c.len.ensures.value
    ∙ sym (run-width scenario cells c.args.self.now are c.run_of.result.now c.run_of.ensures.run c.args.row
    c.run_of.ensures.from c.run_of.ensures.below)
