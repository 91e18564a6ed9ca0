-- G.7042, what the sink tells: rows of control packets, one packet of each line or none where it could not be read, and
-- the return packet that each row makes. RS-Ack as an echo, statuses that are told in 16 packets where 32 aren't asked
-- for, and that a change ends what a line said last are this project's own.
use Rattle.std.specs.Prelude.{ℕ, ◌+◌, ◌-◌, ◌*◌, ◌%◌, ◌==◌, ◌&&◌, not, Bool, true, false, if◌then◌else◌, List, [], ◌∷◌}
use Rattle.std.specs.Prelude.{map, length, fold, take, slice_index_or, Option, Some, None, is_some}
use Rattle.std.specs.List.{list_any, list_all, range_with_len}
use Rattle.law_model.specs.declared.script_types.Options.{Options}
use Rattle.law_model.specs.members.Timers.{last_read, is_up}
use Rattle.check_remainder.specs.Bits.{number}
use Rattle.member_cells.specs.declared.control_word.Ctrl.{Ctrl}
use Rattle.member_cells.specs.declared.control_word.Ctrl.TheVariants.{Fixed, Add, Norm, Eos, Idle, Dnu}
use Rattle.law_model.specs.declared.control_packet.Packet.{Packet}
use Rattle.law_model.specs.declared.lcas_states.SinkState.{SinkState}
use Rattle.law_model.specs.declared.lcas_states.SinkState.TheVariants.{Idle as idle, Fine, Failed}

-- the packets that were read of one k, by line
abbrev pub Row : Type 0
Row = List (Option Packet)

-- the packet that was read on the least line of which one was
abbrev pub leader : Row → Option Packet
leader [] = None
leader (None ∷ row) = leader row
leader (Some packet ∷ row) = Some packet

-- the change bit of the last leader, or 0 where there was none
abbrev pub ack_by : Bool → Option Packet → Bool
ack_by ack None = ack
ack_by ack (Some packet) = packet.chg

abbrev pub ack_of : List Row → Bool
ack_of rows = fold (λ ack row. ack_by ack (leader row)) false rows

-- the line is a member
abbrev pub is_member : Ctrl → Bool
is_member Fixed = true
is_member Add = true
is_member Norm = true
is_member Eos = true
is_member Idle = false
is_member Dnu = true

-- a packet of a member with this SQ
abbrev pub says_at : ℕ → Option Packet → Bool
says_at sq None = false
says_at sq (Some packet) = is_member packet.ctrl && packet.sq == sq

-- ---- what a line said last
abbrev pub packet_row : List Row → ℕ → Row
packet_row rows k = slice_index_or rows k []

-- packet k of a line, where it was read
abbrev pub packet_on : List Row → ℕ → ℕ → Option Packet
packet_on rows line k = slice_index_or (packet_row rows k) line None

abbrev pub has_packet : List Row → ℕ → ℕ → Bool
has_packet rows line k = is_some (packet_on rows line k)

-- packets that are there have one change bit
abbrev pub is_same : Bool → Bool → Bool
is_same bit other = if bit then other else not other

abbrev pub agree : Option Packet → Option Packet → Bool
agree None other = true
agree (Some packet) None = true
agree (Some packet) (Some other) = is_same packet.chg other.chg

-- the leaders that there are from one packet to another have one change bit
abbrev pub have_one_chg : List Row → ℕ → ℕ → Bool
have_one_chg rows from k =
    list_all (λ j. agree (leader (packet_row rows from)) (leader (packet_row rows j))) (range_with_len from (k + 1 - from))

-- the last packet of a line up to packet k, where no change was read since
abbrev pub last_word_by : List Row → ℕ → ℕ → Option ℕ → Option Packet
last_word_by rows line k None = None
last_word_by rows line k (Some last) = if have_one_chg rows last k then packet_on rows line last else None

abbrev pub last_word : List Row → ℕ → ℕ → Option Packet
last_word rows line k = last_word_by rows line k (last_read (has_packet rows line) k)

-- ---- statuses
-- the status of an SQ is OK where some line is up and said last that it is a member with this SQ
abbrev pub status_of : Options → List Row → ℕ → ℕ → Bool
status_of options rows k sq =
    list_any (λ line. is_up options (has_packet rows line) k && says_at sq (last_word rows line k))
    (range_with_len 0 (length (packet_row rows k)))

-- member status of the eight SQ from one on: OK is 0, and that of the least SQ stands in the most significant bit
abbrev pub mst_of : Options → List Row → ℕ → ℕ → ℕ
mst_of options rows k sq = number (map (λ place. not (status_of options rows k place)) (range_with_len sq 8))

-- return packet k of rows from packet 0 on: it tells of the groups of eight SQ in turn
abbrev pub return_of : Options → List Row → ℕ → Packet
return_of options rows k = record {
  mst = mst_of options rows k (8 * (k % options.statuses));
  rs_ack = ack_of (take (k + 1) rows);
  chg = false;
  sq = 255;
  mfi2 = (k + 1) % 256;
  ctrl = Idle;
  gid = false;
  act = 0;
}

-- ---- the state of a line at the sink
abbrev pub state_read : Bool → SinkState
state_read member = if member then Fine else idle

abbrev pub state_unread : SinkState → SinkState
state_unread idle = idle
state_unread Fine = Failed
state_unread Failed = Failed

abbrev pub state_next : SinkState → Option Packet → SinkState
state_next state None = state_unread state
state_next state (Some packet) = state_read (is_member packet.ctrl)

abbrev pub sink_state : List Row → ℕ → SinkState
sink_state rows line = fold (λ state row. state_next state (slice_index_or row line None)) idle rows
