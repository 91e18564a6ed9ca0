-- The containers of a session (G.707, G.7042): what each line carries in each frame. That payload begins in frame 24
-- and packets in
-- frame 8 is this project's own.
use Rattle.std.specs.Prelude.{ℕ, ◌+◌, ◌-◌, ◌*◌, ◌/◌, ◌%◌, ◌==◌, nat_lt, if◌then◌else◌, List, [], ◌++◌, map, length}
use Rattle.std.specs.Prelude.{slice_index, replicate, Option, Some, None}
use Rattle.std.specs.List.{position_from, range_with_len}
use Rattle.member_cells.specs.declared.containers_and_cells.Container.{Container}
use Rattle.law_model.specs.packets.Packet.{packet_nibbles}
use Rattle.law_model.specs.session.Scenario.{Scenario}
use Rattle.law_model.specs.source.Table.{Told, active}
use Rattle.law_model.specs.source.Source.{table_of}
use Rattle.law_model.specs.packets.TellsOtherWay.{sent_packet}
use Rattle.law_model.specs.frames.Payload.{payload_of}
use Rattle.law_model.specs.rows.Interleave.{part_of}
use Rattle.law_model.specs.Limits.{vc4_size}

-- the lines that carry payload in frame t, in the order of SQ: packet k governs frames 16 k + 24 to 16 k + 39
abbrev pub active_at : Scenario → List (Option Told) → ℕ → List ℕ
active_at scenario cells t = if nat_lt t 24 then [] else active (table_of scenario cells ((t - 24) / 16))

-- the rank of a line among lines
abbrev pub rank_of : List ℕ → ℕ → Option ℕ
rank_of lines line = position_from (λ other. other == line) 0 lines

-- what the member of a rank carries of a row, of x members with a size of payload octets each: zeros follow up to 2,340
-- octets, and a
-- line without a rank carries zeros alone
abbrev pub payload_by : Option ℕ → ℕ → ℕ → List ℕ → List ℕ
payload_by None x size row = replicate vc4_size 0
payload_by (Some rank) x size row = part_of rank x size row ++ replicate (vc4_size - size) 0

abbrev pub payload_on : List ℕ → ℕ → ℕ → List ℕ → List ℕ
payload_on lines line size row = payload_by (rank_of lines line) (length lines) size row

-- the nibble that a line carries of its packets: packet k is sent in frames 16 k + 8 to 16 k + 23
abbrev pub nibble_in : Scenario → List (Option Told) → ℕ → ℕ → ℕ → ℕ
nibble_in scenario cells line k place = slice_index (packet_nibbles (sent_packet scenario cells line k)) place

abbrev pub nibble_at : Scenario → List (Option Told) → ℕ → ℕ → ℕ
nibble_at scenario cells line t = if nat_lt t 8 then 0 else nibble_in scenario cells line ((t - 8) / 16) ((t - 8) % 16)

-- the container of a line in frame t
abbrev pub container_of : Scenario → List (Option Told) → ℕ → ℕ → Container
container_of scenario cells line t = record {
  h4 = 16 * nibble_at scenario cells line t + t % 16;
  payload = payload_on (active_at scenario cells t) line scenario.size (payload_of scenario cells t);
}

-- those of a line in the first frames
abbrev pub containers_of : Scenario → List (Option Told) → ℕ → ℕ → List Container
containers_of scenario cells line frames = map (container_of scenario cells line) (range_with_len 0 frames)

-- those of all lines in frame t, by line
abbrev pub frame_of : Scenario → List (Option Told) → ℕ → List Container
frame_of scenario cells t = map (λ line. container_of scenario cells line t)
    (range_with_len 0 (length scenario.windows))
