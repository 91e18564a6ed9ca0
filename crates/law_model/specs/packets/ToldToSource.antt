-- G.7042, what a return cell tells the source: a return packet's acknowledgement (RS-Ack) and member status (MST).
-- RS-Ack as an echo of the change bit is this project's own.
use Rattle.std.specs.Prelude.{ℕ, not, Bool, List, map, Option, Some, None, option_map, Result, Ok, Err}
use Rattle.check_remainder.specs.Bits.{bits}
use Rattle.member_cells.specs.declared.containers_and_cells.BackCell.{BackCell}
use Rattle.member_cells.specs.declared.containers_and_cells.BackCell.TheVariants.{Packet as Nibbles, Lost}
use Rattle.law_model.specs.declared.control_packet.Packet.{Packet}
use Rattle.law_model.specs.declared.control_packet.PacketFault.{PacketFault}
use Rattle.law_model.specs.packets.Packet.{bit_nibble, read_of}
use Rattle.law_model.specs.source.Table.{Told}

-- the eight statuses of a group, that of its least SQ first: OK is sent as 0, and the first status in the most
-- significant bit
abbrev pub oks_in : ℕ → List Bool
oks_in mst = map not (bits 8 mst)

abbrev pub told_by : Packet → Told
told_by packet = record { rs_ack = bit_nibble packet.rs_ack; oks = oks_in packet.mst }

-- what is read of nibbles, where they are a packet
abbrev pub packet_read : Result Packet PacketFault → Option Packet
packet_read (Ok packet) = Some packet
packet_read (Err fault) = None

-- the packet that a return cell holds, where it is one
abbrev pub packet_in : BackCell → Option Packet
packet_in (Nibbles nibbles) = packet_read (read_of nibbles)
packet_in Lost = None

-- what a return cell tells: one that holds no packet is as a lost one
abbrev pub told_in : BackCell → Option Told
told_in cell = option_map told_by (packet_in cell)
