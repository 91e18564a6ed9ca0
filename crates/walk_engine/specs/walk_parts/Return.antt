-- The return path of a walk.
use Rattle.std.specs.Prelude.{ℕ, ◌+◌, Bool, List, [], ◌∷◌, ◌++◌, Option, Some, None}
use Rattle.law_model.specs.Common.{BackCell, packet_nibbles}
use Rattle.law_model.specs.declared.control_packet.Packet.{Packet}
use Rattle.member_cells.specs.declared.containers_and_cells.BackCell.TheVariants.{Packet as Nibbles}
use Rattle.terminal_group.specs.ReturnInbox.{Inbox, is_lost_in, come_by}

-- the return packets that haven't come, oldest first; the return windows; the return cells that have come and weren't
-- taken, for which
-- there is some room; and how many have come
pub record Return : Type 0 where
  pub ring : List Packet
  pub lost : List (ℕ × ℕ)
  pub inbox : List BackCell
  pub room : ℕ
  pub backs : ℕ

-- a return ring and an inbox
abbrev pub path_of : List Packet → Inbox → Return
path_of ring inbox = record {
  ring = ring;
  lost = inbox.lost;
  inbox = inbox.cells;
  room = inbox.room;
  backs =
      inbox.come;
}

-- a return packet as a return cell, and what comes of it
abbrev pub packet_cell : Packet → BackCell
packet_cell packet = Nibbles (packet_nibbles packet)

abbrev pub come : Bool → Packet → BackCell
come lost packet = come_by lost (packet_cell packet)

abbrev pub listed : {X : Type 0} → Option X → List X
listed None = []
listed (Some x) = x ∷ []

abbrev pub moved_by : Return → List Packet → Return
moved_by path [] = path
moved_by path (packet ∷ packets) = record path {
  ring = packets;
  inbox = path.inbox ++ come (is_lost_in path.lost path.backs) packet ∷ [];
  backs = path.backs + 1;
}

-- the first packet on its way has come, where there is one
abbrev pub and_moved : Return → Return
and_moved path = moved_by path path.ring
