-- The control packets among the H4 octets of a line all of whose cells are good (G.707, G.7042), each at the place of
-- its first
-- octet, counted from 0.
use Rattle.std.specs.Prelude.{ℕ, ◌+◌, ◌/◌, ◌%◌, ◌==◌, nat_le, ◌&&◌, Bool, true, false, if◌then◌else◌, List, [], ◌∷◌}
use Rattle.std.specs.Prelude.{◌++◌, length, map, take, slice_index, Option, Some, Result}
use Rattle.std.specs.List.{list_all}
use Rattle.law_model.specs.declared.control_packet.Packet.{Packet}
use Rattle.law_model.specs.declared.control_packet.PacketFault.{PacketFault}
use Rattle.law_model.specs.members.CellVerdicts.{LineLock, unlocked, Sight, unknown, locks, at}
use Rattle.law_model.specs.members.Sight.{lock_by, sights_on}
use Rattle.law_model.specs.packets.Packet.{read_of}

-- the octets as the cells of a line
abbrev pub good_cells : List ℕ → List (Option ℕ)
good_cells octets = map Some octets

-- a cell comes while the line is locked
abbrev pub is_at : Sight → Bool
is_at unknown = false
is_at (locks number) = false
is_at at = true

-- octets may be the first ones of a packet: the first of them has MFI1 8, and they come while the line is locked
abbrev pub is_front : LineLock → List ℕ → Bool
is_front lock octets = slice_index octets 0 % 16 == 8 && list_all is_at (sights_on lock (good_cells octets))

-- a packet stands at the front of octets: there are sixteen such
abbrev pub begins_packet : LineLock → List ℕ → Bool
begins_packet lock octets = nat_le 16 (length octets) && is_front lock (take 16 octets)

-- the nibbles in the upper halves of octets
abbrev pub upper_halves : List ℕ → List ℕ
upper_halves octets = map (λ octet. octet / 16) octets

-- those of the first sixteen
abbrev pub front_nibbles : List ℕ → List ℕ
front_nibbles octets = upper_halves (take 16 octets)

-- a packet, by its place: what is read of its nibbles
abbrev pub Found : Type 0
Found = ℕ × Result Packet PacketFault

-- the packet at the front of octets, whose first has this place
abbrev pub packet_here : LineLock → ℕ → List ℕ → List Found
packet_here lock place octets = if begins_packet lock octets then (place, read_of (front_nibbles octets)) ∷ [] else []

-- the packets of octets that come after others
unfoldable pub packets_on : LineLock → ℕ → List ℕ → List Found
packets_on lock place [] = []
packets_on lock place (h4 ∷ octets) =
    packet_here lock place (h4 ∷ octets) ++ packets_on (lock_by lock (Some h4)) (place + 1) octets

-- the packets of the octets of a line, in their order
abbrev pub packets_in : List ℕ → List Found
packets_in octets = packets_on unlocked 0 octets
