-- The control packet (G.7042): sixteen nibbles, which go in the upper halves of sixteen H4 octets from MFI1 8 on. The
-- fields stand where G.707 has them. The number of active members (ACT) and the change bit (CHG), in nibbles that the
-- standard reserves, and the details of the check are this project's own.
use Rattle.std.specs.Prelude.{ℕ, ◌+◌, ◌*◌, ◌/◌, ◌%◌, ◌<◌, ◌==◌, nat_lt, ◌&&◌, Bool, if◌then◌else◌, List, [], ◌∷◌, ◌++◌}
use Rattle.std.specs.Prelude.{length, take, slice_index, Option, Some, None, Result, Ok, Err}
use Rattle.std.specs.List.{list_all}
use Rattle.check_nibbles.specs.NibbleCheck.{crc8_of}
use Rattle.member_cells.specs.declared.control_word.Ctrl.{Ctrl}
use Rattle.member_cells.specs.ControlCode.{code_of, ctrl_of}
use Rattle.law_model.specs.declared.control_packet.Packet.{Packet}
use Rattle.law_model.specs.declared.control_packet.PacketFault.{PacketFault}
use Rattle.law_model.specs.declared.control_packet.PacketFault.TheVariants.{Crc, Ctrl as CtrlFault}

-- ---- what is sent
-- an octet in two nibbles
abbrev pub octet_nibbles : ℕ → List ℕ
octet_nibbles octet = octet / 16 ∷ octet % 16 ∷ []

-- a bit in a nibble
abbrev pub bit_nibble : Bool → ℕ
bit_nibble bit = if bit then 1 else 0

-- a packet whose numbers are octets
pub record IsPacket (packet : Packet) : Type 0 where
  pub mst : packet.mst < 256
  pub sq : packet.sq < 256
  pub mfi2 : packet.mfi2 < 256
  pub act : packet.act < 256

-- the fourteen nibbles that the check covers: member status, RS-Ack, CHG, two reserved ones, SQ, MFI2, CTRL, GID, ACT
abbrev pub covered_nibbles : Packet → List ℕ
covered_nibbles packet =
    octet_nibbles packet.mst ++ bit_nibble packet.rs_ack ∷ bit_nibble packet.chg ∷ 0 ∷ 0 ∷ octet_nibbles packet.sq
    ++ octet_nibbles packet.mfi2 ++ code_of packet.ctrl ∷ bit_nibble packet.gid ∷ octet_nibbles packet.act

-- the nibbles of a packet in the order of sending: the check comes after those that it covers
abbrev pub packet_nibbles : Packet → List ℕ
packet_nibbles packet = covered_nibbles packet ++ octet_nibbles (crc8_of (covered_nibbles packet))

-- ---- what nibbles say
-- the octet of a nibble and the next one
abbrev pub octet_at : List ℕ → ℕ → ℕ
octet_at nibbles place = 16 * slice_index nibbles place + slice_index nibbles (place + 1)

-- the lowest bit of a nibble
abbrev pub bit_at : List ℕ → ℕ → Bool
bit_at nibbles place = slice_index nibbles place % 2 == 1

-- the check that sixteen nibbles say, and the one over the fourteen before it
abbrev pub said_check : List ℕ → ℕ
said_check nibbles = octet_at nibbles 14

abbrev pub found_check : List ℕ → ℕ
found_check nibbles = crc8_of (take 14 nibbles)

-- the code that they say
abbrev pub said_code : List ℕ → ℕ
said_code nibbles = slice_index nibbles 10

-- the packet that they say with this control word. The ignored bits, which are the upper ones of RS-Ack, CHG and GID
-- and the two
-- reserved nibbles, say nothing
abbrev pub packet_of : List ℕ → Ctrl → Packet
packet_of nibbles ctrl = record {
  mst = octet_at nibbles 0;
  rs_ack = bit_at nibbles 2;
  chg = bit_at nibbles 3;
  sq = octet_at nibbles 6;
  mfi2 = octet_at nibbles 8;
  ctrl = ctrl;
  gid = bit_at nibbles 11;
  act = octet_at nibbles 12;
}

-- the fourteen nibbles with the ignored bits cleared
abbrev pub cleared_nibbles : List ℕ → List ℕ
cleared_nibbles nibbles =
    slice_index nibbles 0 ∷ slice_index nibbles 1 ∷ slice_index nibbles 2 % 2 ∷ slice_index nibbles 3 % 2 ∷ 0 ∷ 0
    ∷ slice_index nibbles 6 ∷ slice_index nibbles 7 ∷ slice_index nibbles 8 ∷ slice_index nibbles 9 ∷ slice_index
    nibbles 10
    ∷ slice_index nibbles 11 % 2 ∷ slice_index nibbles 12 ∷ slice_index nibbles 13 ∷ []

-- ---- what is read
-- sixteen numbers of four bits
abbrev pub are_nibbles : List ℕ → Bool
are_nibbles nibbles = length nibbles == 16 && list_all (λ nibble. nat_lt nibble 16) nibbles

-- where the check is right: the packet, if their code is that of a control word
abbrev pub read_by : Option Ctrl → List ℕ → Result Packet PacketFault
read_by None nibbles = Err (CtrlFault (said_code nibbles))
read_by (Some ctrl) nibbles = Ok (packet_of nibbles ctrl)

-- what is read of a list. One that is not sixteen nibbles is refused like one whose check is wrong
unfoldable pub read_of : List ℕ → Result Packet PacketFault
read_of nibbles =
    if are_nibbles nibbles && said_check nibbles == found_check nibbles then read_by
    (ctrl_of (said_code nibbles)) nibbles
    else Err (Crc (said_check nibbles) (found_check nibbles))
