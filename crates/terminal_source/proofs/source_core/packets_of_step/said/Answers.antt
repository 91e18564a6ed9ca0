-- The numbers of a packet are octets, so each of its nibbles has four bits.
use Rattle.std.proofs.Common.{◌<◌, All, sym, subst, arith}
use Rattle.law_model.specs.Common.{IsPacket}
use Rattle.law_model.proofs.PacketNibblesLaws.{packet_nibbles_below}
use Rattle.terminal_source.proofs.source_core.packets_of_step.said.Goals as goal

pub returns-clause-below : goal.returns-clause-below
returns-clause-below c =
    let packet = c.args.packet in
    let octets : IsPacket packet = record { mst = omega arith; sq = omega arith; mfi2 = omega arith; act = omega arith }
    in
    subst (All (λ nibble. nibble < 16)) (sym c.nibbles.ensures) (packet_nibbles_below packet octets)
