-- What one way of a pair has to tell in the other, and what its source has heard there.
use Rattle.std.specs.Prelude.{◌≡◌, ℕ, ◌+◌, ◌-◌, ◌*◌, ◌%◌, ◌==◌, ◌&&◌, nat_le, if◌then◌else◌, Bool, List, [], map}
use Rattle.std.specs.Prelude.{drop, slice_get, slice_index_or, Option, Some, None, IfSome}
use Rattle.std.specs.List.{range_with_len}
use Rattle.law_model.specs.Common.{BackCell, IsPacket, Leg, packet_nibbles, told_in, used_in}
use Rattle.law_model.specs.declared.control_packet.Packet.{Packet}
use Rattle.member_cells.specs.declared.containers_and_cells.BackCell.TheVariants.{Packet as Nibbles, Lost}
use Rattle.law_model.specs.declared.script_types.Script.{Script}
use Rattle.law_model.specs.session.Scenario.{packets_in}
use Rattle.law_pair.specs.Common.{way_of}
use Rattle.law_walk.specs.Common.{said_packet, back_cell}
use Rattle.terminal_group.specs.ReturnInbox.{Inbox}

-- ---- what is told
-- the return packets of a way that wait to be told in the other one, and how many there is room for
pub record Said : Type 0 where
  pub packets : List Packet
  pub room : ℕ

-- those that the sink has said with some rows and that no packet of the other way has told in some ticks, whose first
-- packets, as many as the lag, tell none
abbrev pub untold_packets : Leg → ℕ → ℕ → ℕ → List Packet
untold_packets leg lag ticks rows =
    map (said_packet leg) (range_with_len (used_in lag ticks) (packets_in rows - used_in lag ticks))

-- the frame after some ticks begins a packet that tells one
abbrev pub tells_next : ℕ → ℕ → Bool
tells_next lag ticks = nat_le (16 * lag + 8) ticks && ticks % 16 == 8

-- the packet that it tells, of those that wait, and those that are left
abbrev pub told_now : Bool → List Packet → Option Packet
told_now tells packets = if tells then slice_get packets 0 else None

abbrev pub left_untold : Bool → Said → Said
left_untold tells said = if tells then record said { packets = drop 1 said.packets } else said

-- ---- what is heard
-- how many return packets were heard in some rows of the other way
abbrev pub heard_in : ℕ → ℕ → ℕ
heard_in lag rows = packets_in rows - lag

-- those that no decision step of some ticks has taken
abbrev pub heard_cells : Leg → ℕ → ℕ → ℕ → List BackCell
heard_cells leg lag ticks rows =
    map (back_cell leg)
    (range_with_len (used_in leg.config.lag ticks) (heard_in lag rows - used_in leg.config.lag ticks))

-- a cell for a return packet that was read, or for none
abbrev pub cell_with : Option Packet → BackCell
cell_with None = Lost
cell_with (Some packet) = Nibbles (packet_nibbles packet)

-- it is one
abbrev pub IsSaid : BackCell → Type 0
IsSaid cell = (found : Option Packet) × IfSome found IsPacket × (cell ≡ cell_with found)

-- what is shown of a cell that isn't lost: the two digits of its status octet, and its RS-Ack
pub record CellShown : Type 0 where
  pub high : ℕ
  pub low : ℕ
  pub ack : ℕ

abbrev pub cell_shown : BackCell → Option CellShown
cell_shown Lost = None
cell_shown (Nibbles nibbles) = Some (record {
  high = slice_index_or nibbles 0 0;
  low = slice_index_or nibbles 1 0;
  ack = slice_index_or nibbles 2 0 % 2;
})

-- an inbox holds cells that tell what these do, and of which the same is shown
pub record HasHeard (leg : Leg) (lag ticks rows : ℕ) (inbox : Inbox) : Type 0 where
  pub lost : inbox.lost ≡ []
  pub room : inbox.room ≡ leg.config.lag + 1
  pub come : inbox.come ≡ heard_in lag rows
  pub tells : map told_in inbox.cells ≡ map told_in (heard_cells leg lag ticks rows)
  pub shown : map cell_shown inbox.cells ≡ map cell_shown (heard_cells leg lag ticks rows)

-- ---- both
-- what goes to the other way and comes from it, after some ticks and rows, and some rows of the other: what was said
-- and waits to be told there, and what the source heard there
pub record Meets (script other : Script) (rows other_rows ticks : ℕ) (said : Said) (inbox : Inbox) : Type 0 where
  pub packets : said.packets ≡ untold_packets (way_of script other) script.config.lag ticks rows
  pub room : said.room ≡ script.config.lag
  pub heard : HasHeard (way_of script other) script.config.lag ticks other_rows inbox
