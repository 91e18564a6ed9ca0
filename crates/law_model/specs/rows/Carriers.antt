-- Which lines carry payload (G.7042), by the control packets that were read of all lines: by those of one number, and
-- where the sink goes on without some of them, by what silent lines said last. That both are tested by the number of
-- active members that a packet says (ACT), and when the sink goes on, is this project's own.
use Rattle.std.specs.Prelude.{ℕ, zero, suc, ◌+◌, ◌==◌, ◌&&◌, ◌||◌, not, Bool, true, false, if◌then◌else◌, List, [], ◌∷◌}
use Rattle.std.specs.Prelude.{◌++◌, map, length, Option, Some, None, is_some, option_map}
use Rattle.std.specs.List.{list_all, range_with_len}
use Rattle.member_cells.specs.declared.control_word.Ctrl.{Ctrl}
use Rattle.member_cells.specs.declared.control_word.Ctrl.TheVariants.{Fixed, Add, Norm, Eos, Idle, Dnu}
use Rattle.law_model.specs.declared.control_packet.Packet.{Packet}
use Rattle.law_model.specs.declared.script_types.Options.{Options}
use Rattle.law_model.specs.members.Timers.{last_read}
use Rattle.law_model.specs.packets.ReturnPacket.{Row, leader, is_member, packet_row, packet_on, has_packet, last_word}

-- ---- the lines that carry payload by packets of one number
abbrev pub is_carrying : Ctrl → Bool
is_carrying Fixed = true
is_carrying Add = false
is_carrying Norm = true
is_carrying Eos = true
is_carrying Idle = false
is_carrying Dnu = false

-- a packet has an SQ and such a control word
abbrev pub has : (Ctrl → Bool) → ℕ → Option Packet → Bool
has counts sq None = false
has counts sq (Some packet) = counts packet.ctrl && packet.sq == sq

-- the lines that carry payload with an SQ, from a line on
abbrev pub lines_at : ℕ → ℕ → List (Option Packet) → List ℕ
lines_at sq line [] = []
lines_at sq line (packet ∷ packets) =
    if has is_carrying sq packet then line ∷ lines_at sq (line + 1) packets else lines_at sq (line + 1) packets

-- those of a count of SQ, from an SQ on
unfoldable pub active_from : ℕ → ℕ → List (Option Packet) → List ℕ
active_from sq zero packets = []
active_from sq (suc count) packets = lines_at sq 0 packets ++ active_from (sq + 1) count packets

-- the lines that carry payload, in the order of SQ and, for equal SQ, of line
abbrev pub active_of : List (Option Packet) → List ℕ
active_of packets = active_from 0 256 packets

-- ---- silent lines
-- the last packet of a line up to packet k
abbrev pub packet_of_last : List Row → ℕ → Option ℕ → Option Packet
packet_of_last rows line None = None
packet_of_last rows line (Some last) = packet_on rows line last

abbrev pub last_packet : List Row → ℕ → ℕ → Option Packet
last_packet rows line k = packet_of_last rows line (last_read (has_packet rows line) k)

-- a packet is that of a member
abbrev pub says_member : Option Packet → Bool
says_member None = false
says_member (Some packet) = is_member packet.ctrl

-- a line is silent: its packet k wasn't read, and by the last one that was it is a member
abbrev pub is_silent : List Row → ℕ → ℕ → Bool
is_silent rows line k = not (has_packet rows line k) && says_member (last_packet rows line k)

-- what each silent line said last counts, since no change was read
abbrev pub are_worded : List Row → ℕ → Bool
are_worded rows k =
    list_all (λ line. not (is_silent rows line k) || is_some (last_word rows line k))
    (range_with_len 0 (length (packet_row rows k)))

-- ---- packets k, in which each silent line carries payload at the SQ that it said last
abbrev pub in_norm : Packet → Packet
in_norm packet = record packet { ctrl = Norm }

abbrev pub supposed : List Row → ℕ → ℕ → Option Packet
supposed rows line k =
    if is_silent rows line k then option_map in_norm (last_word rows line k) else packet_on rows line k

abbrev pub supposed_row : List Row → ℕ → Row
supposed_row rows k = map (λ line. supposed rows line k) (range_with_len 0 (length (packet_row rows k)))

-- ---- carriers
-- where a sink goes on, the lines that read and silent packets say, where they number an ACT
abbrev pub inferred : Options → List Row → ℕ → ℕ → Option (List ℕ)
inferred options rows k act =
    if options.infers && are_worded rows k && length (active_of (supposed_row rows k)) == act
    then Some (active_of (supposed_row rows k)) else None

-- those that packets of number k say, where they number the ACT of the leader; else those that can be inferred. None
-- where they aren't known
abbrev pub carriers_by : Options → List Row → ℕ → Option Packet → Option (List ℕ)
carriers_by options rows k None = None
carriers_by options rows k (Some packet) =
    if length (active_of (packet_row rows k)) == packet.act then Some (active_of (packet_row rows k))
    else inferred options rows k packet.act

abbrev pub carriers_of : Options → List Row → ℕ → Option (List ℕ)
carriers_of options rows k = carriers_by options rows k (leader (packet_row rows k))
