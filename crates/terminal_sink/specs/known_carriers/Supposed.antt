-- What a sink supposes of the lines that are silent, by what it keeps of them.
use Rattle.std.specs.Prelude.{ℕ, ◌==◌, ◌&&◌, ◌||◌, not, Bool, true, false, if◌then◌else◌, List, map, length, Option}
use Rattle.std.specs.Prelude.{Some}
use Rattle.std.specs.Prelude.{None, is_some, option_map, slice_index_or}
use Rattle.std.specs.List.{list_all, range_with_len}
use Rattle.member_cells.specs.declared.control_word.Ctrl.TheVariants.{Norm}
use Rattle.law_model.specs.Common.{Row, active_of}
use Rattle.law_model.specs.declared.control_packet.Packet.{Packet}
use Rattle.law_model.specs.declared.script_types.Options.{Options}
use Rattle.law_model.specs.declared.lcas_states.SinkState.{SinkState}
use Rattle.law_model.specs.declared.lcas_states.SinkState.TheVariants.{Idle, Fine, Failed}
use Rattle.terminal_sink.specs.declared.member_watch.MemberWatch.{MemberWatch}
use Rattle.terminal_sink.specs.member_watch.Watches.{watch_at}
use Rattle.terminal_sink.specs.lcas_sink.SinkStates.{state_at}

-- a line whose packet wasn't read was a member by the last one that was
abbrev pub is_failed : SinkState → Bool
is_failed Idle = false
is_failed Fine = false
is_failed Failed = true

-- it said a number last that counts
abbrev pub is_worded : SinkState → MemberWatch → Bool
is_worded state watch = not (is_failed state) || is_some watch.said

abbrev pub are_all_worded : List SinkState → List MemberWatch → ℕ → Bool
are_all_worded states watches lines =
    list_all (λ line. is_worded (state_at states line) (watch_at watches line)) (range_with_len 0 lines)

-- a packet by which a line carries payload at an SQ
abbrev pub norm_at : ℕ → Packet
norm_at sq =
    record { mst = 0; rs_ack = false; chg = false; sq = sq; mfi2 = 0; ctrl = Norm; gid = false; act = 0 }

-- the packet that is supposed of a line: a failed one carries payload at the SQ that it said last
abbrev pub supposed_by : SinkState → MemberWatch → Option Packet → Option Packet
supposed_by Idle watch packet = packet
supposed_by Fine watch packet = packet
supposed_by Failed watch packet = option_map norm_at watch.said

abbrev pub supposed_at : List SinkState → List MemberWatch → Row → ℕ → Option Packet
supposed_at states watches row line =
    supposed_by (state_at states line) (watch_at watches line) (slice_index_or row line None)

abbrev pub supposed_packets : List SinkState → List MemberWatch → Row → Row
supposed_packets states watches row = map (supposed_at states watches row) (range_with_len 0 (length row))

-- the lines that these packets say, where a sink goes on, they number an ACT, and each failed line said a number last
-- that counts
abbrev pub inferred_by : Options → List SinkState → List MemberWatch → Row → ℕ → Option (List ℕ)
inferred_by options states watches row act =
    if options.infers && are_all_worded states watches (length row)
    && length (active_of (supposed_packets states watches row)) == act
    then Some (active_of (supposed_packets states watches row)) else None
