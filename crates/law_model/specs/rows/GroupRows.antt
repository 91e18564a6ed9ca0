-- The rows of a group, over any cells of all its lines (G.707, G.7042): the control packets that are read, the rows
-- that are whole by them and the octets that those give, and the return packets.
use Rattle.std.specs.Prelude.{ℕ, ◌+◌, ◌-◌, ◌/◌, nat_lt, if◌then◌else◌, List, [], ◌∷◌, map, slice_get, Option, Some, None}
use Rattle.std.specs.Prelude.{is_none, option_map}
use Rattle.std.specs.List.{range_with_len, position_from}
use Rattle.std.specs.Result.{result_ok}
use Rattle.member_cells.specs.declared.containers_and_cells.Container.{Container}
use Rattle.member_cells.specs.declared.containers_and_cells.Cell.{Cell}
use Rattle.law_model.specs.declared.control_packet.Packet.{Packet}
use Rattle.law_model.specs.declared.script_types.Options.{Options}
use Rattle.law_model.specs.packets.Packet.{read_of}
use Rattle.law_model.specs.members.CellVerdicts.{verdict}
use Rattle.law_model.specs.packets.MemberPacket.{nibbles_of}
use Rattle.law_model.specs.packets.ReturnPacket.{return_of}
use Rattle.law_model.specs.rows.Carriers.{carriers_of}
use Rattle.law_model.specs.rows.Interleave.{row_of}

-- ---- the packets that are read
abbrev pub packet_in : Option (List ℕ) → Option Packet
packet_in None = None
packet_in (Some nibbles) = result_ok (read_of nibbles)

-- packet k of a line: there where its numbers are all whole and their nibbles are those of a packet
abbrev pub read_packet : List Cell → ℕ → Option Packet
read_packet own k = packet_in (nibbles_of own k)

-- by line
abbrev pub read_packets : List (List Cell) → ℕ → List (Option Packet)
read_packets cells k = map (λ own. read_packet own k) cells

-- the packets that govern row t: packet k governs rows 16 k + 24 to 16 k + 39, and none governs those before
abbrev pub governing : List (List Cell) → ℕ → List (Option Packet)
governing cells t = if nat_lt t 24 then map (λ own. None) cells else read_packets cells ((t - 24) / 16)

-- ---- rows
-- the container that a line gives at row t
abbrev pub container_in : Option (Option Container) → Option Container
container_in None = None
container_in (Some told) = told

abbrev pub container_on : Option (List Cell) → ℕ → Option Container
container_on None t = None
container_on (Some own) t = container_in (verdict own t)

-- those of lines, where each gives one
abbrev pub with_first : Option Container → Option (List Container) → Option (List Container)
with_first None rest = None
with_first (Some first) None = None
with_first (Some first) (Some rest) = Some (first ∷ rest)

abbrev pub containers_at : List (List Cell) → ℕ → List ℕ → Option (List Container)
containers_at cells t [] = Some []
containers_at cells t (line ∷ lines) = with_first (container_on (slice_get cells line) t) (containers_at cells t lines)

-- the row that containers carry, dealt to them in turn: a size of payload octets each
abbrev pub carried_row : List Container → ℕ → List ℕ
carried_row containers size = row_of size (map (λ container. container.payload) containers)

-- the lines that carry payload in the rows that packet k governs, where that is known
abbrev pub carriers_at : Options → List (List Cell) → ℕ → Option (List ℕ)
carriers_at options cells k = carriers_of options (map (read_packets cells) (range_with_len 0 (k + 1))) k

-- the row that these lines give: it is whole where they are known, and each of them is whole
abbrev pub row_by : Option (List ℕ) → ℕ → List (List Cell) → ℕ → Option (List ℕ)
row_by None size cells t = None
row_by (Some lines) size cells t =
    option_map (λ containers. carried_row containers size) (containers_at cells t lines)

-- the octets of row t, where it is whole: containers have a size of payload octets. Packet k governs rows 16 k + 24 to
-- 16 k + 39; rows 0 to 23 are whole and give nothing
abbrev pub row_at : Options → ℕ → List (List Cell) → ℕ → Option (List ℕ)
row_at options size cells t =
    if nat_lt t 24 then Some [] else row_by (carriers_at options cells ((t - 24) / 16)) size cells t

-- the first line whose cells don't decide row t
abbrev pub first_open : List (List Cell) → ℕ → Option ℕ
first_open cells t = position_from (λ own. is_none (verdict own t)) 0 cells

-- ---- return packets
-- return packet k, by the packets that are read up to it
abbrev pub return_at : Options → List (List Cell) → ℕ → Packet
return_at options cells k = return_of options (map (read_packets cells) (range_with_len 0 (k + 1))) k
