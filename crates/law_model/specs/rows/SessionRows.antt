-- The rows of a session (G.707, G.7042), as the source's table and the failures say: which control packets can be read
-- of the lines, where it is known which lines carry payload, and which rows are whole. When a sink goes on without some
-- packets is this project's own.
use Rattle.std.specs.Prelude.{ℕ, ◌-◌, ◌/◌, ◌==◌, ◌&&◌, ◌||◌, not, nat_lt, Bool, true, false, if◌then◌else◌, List, map}
use Rattle.std.specs.Prelude.{length, Option, Some, None, is_some}
use Rattle.std.specs.List.{list_all, list_any, range_with_len}
use Rattle.law_model.specs.declared.control_packet.Packet.{Packet}
use Rattle.law_model.specs.members.Damage.{is_good}
use Rattle.law_model.specs.members.Timers.{last_read}
use Rattle.law_model.specs.session.Scenario.{Scenario, carried_by, is_read, is_heard}
use Rattle.law_model.specs.source.Table.{Table, Told, active}
use Rattle.law_model.specs.source.Source.{table_of}
use Rattle.law_model.specs.source.SessionReturns.{is_line, word}
use Rattle.law_model.specs.packets.Forward.{forward_packet}
use Rattle.law_model.specs.packets.TellsOtherWay.{telling, telling_at}
use Rattle.law_model.specs.packets.ReturnPacket.{Row}

-- packet k of a number of lines, by line, of those that can be read: each tells the same
abbrev pub packet_if : Bool → Packet → Option Packet
packet_if read packet = if read then Some packet else None

abbrev pub packets_from : ℕ → Told → Table → ℕ → (ℕ → Bool) → Row
packets_from lines told table k readable =
    map (λ line. packet_if (readable line) (telling told (forward_packet table line k))) (range_with_len 0 lines)

-- those of a session
abbrev pub packets_of : Scenario → List (Option Told) → ℕ → Row
packets_of scenario cells k =
    packets_from (length scenario.windows) (telling_at scenario k) (table_of scenario cells k) k
    (λ line. is_read scenario line k)

-- ---- which lines carry payload is known
-- a line stood among the members in a packet
abbrev pub was_member : Scenario → List (Option Told) → ℕ → Option ℕ → Bool
was_member scenario cells line None = false
was_member scenario cells line (Some last) =
    list_any (λ member. is_line line (Some member)) (table_of scenario cells last).order

-- a line is silent: its packet k can't be read, and in the last one that could it was a member
abbrev pub is_silent_line : Scenario → List (Option Told) → ℕ → ℕ → Bool
is_silent_line scenario cells line k =
    not (is_read scenario line k) && was_member scenario cells line (last_read (is_read scenario line) k)

-- a line carries payload, and what it said last counts
abbrev pub is_inferred : Scenario → List (Option Told) → ℕ → ℕ → Bool
is_inferred scenario cells line k =
    list_any (λ other. other == line) (active (table_of scenario cells k)) && is_some (word scenario cells line k)

-- where a sink goes on: each silent line is one of those that carry payload
abbrev pub are_inferred : Scenario → List (Option Told) → ℕ → Bool
are_inferred scenario cells k =
    list_all (λ line. not (is_silent_line scenario cells line k) || is_inferred scenario cells line k)
    (range_with_len 0 (length scenario.windows))

-- packet k of each line that carries payload can be read, or it is known without
abbrev pub are_known : Scenario → List (Option Told) → ℕ → Bool
are_known scenario cells k =
    list_all (λ line. is_read scenario line k) (active (table_of scenario cells k))
    || (scenario.options.infers && are_inferred scenario cells k)

-- some line has a packet k that can be read, and by those it is known which lines carry payload
abbrev pub is_known : Scenario → List (Option Told) → ℕ → Bool
is_known scenario cells k = is_heard scenario k && are_known scenario cells k

abbrev pub known_lines : Scenario → List (Option Told) → ℕ → Option (List ℕ)
known_lines scenario cells k = if is_known scenario cells k then Some (active (table_of scenario cells k)) else None

-- ---- rows
-- a row t is whole under packet k: it is known which lines carry payload, and the container of each of them is good
abbrev pub is_whole_under : Scenario → List (Option Told) → ℕ → ℕ → Bool
is_whole_under scenario cells k t =
    is_known scenario cells k
    && list_all (λ line. is_good (carried_by scenario line) t) (active (table_of scenario cells k))

-- packet k governs rows 16 k + 24 to 16 k + 39; those before are whole
abbrev pub is_whole_row : Scenario → List (Option Told) → ℕ → Bool
is_whole_row scenario cells t = if nat_lt t 24 then true else is_whole_under scenario cells ((t - 24) / 16) t
