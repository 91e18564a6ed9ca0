-- What is sent of a packet is read back.
use Rattle.std.proofs.Common.{Some, ◌∙◌, ap, arith}
use Rattle.member_cells.specs.declared.containers_and_cells.BackCell.TheVariants.{Packet as Nibbles}
use Rattle.law_model.specs.Common.{IsPacket, told_in}
use Rattle.law_model.specs.declared.control_packet.Packet.{Packet}
use Rattle.law_row.proofs.LastWordAndReturnPacketLaws.{told_in-nibbles}
use Rattle.pair_engine.proofs.ways_meet.told_cell.Goals as goal

pub returns : goal.returns
returns c =
    let packet : Packet = c.args.packet in
    let octets : IsPacket packet =
    record { mst = omega arith; sq = omega arith; mfi2 = omega arith; act = omega arith } in
    record {
      told = ap (λ nibbles. told_in (Nibbles nibbles)) c.nibbles.ensures ∙ told_in-nibbles packet octets;
      said = (Some packet, octets, ap Nibbles c.nibbles.ensures);
    }
