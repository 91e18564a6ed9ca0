-- What is kept of the packets of a group.
use Rattle.std.specs.Prelude.{◌≡◌, ◌≢◌, ℕ, suc, ◌+◌, ◌*◌, ◌≤◌, ◌<◌, ◌^◌, Bool, false, List, [], length, take, sum_by}
use Rattle.std.specs.Prelude.{Option, Some, slice_get, slice_index_or, replicate, flat_map}
use Rattle.law_model.specs.Common.{Scenario, Told, active, is_known, table_of, most_lines, most_packets}
use Rattle.fate_engine.specs.declared.fate_core.packet_rows.Run.{Run}

-- the octets of payload that a line has in a row; the active lines under each packet, in the order of the packets; and
-- of the first packets, whether the sink knows which lines are active
pub record PacketList : Type 0 where
  pub size : ℕ
  pub active : List (List ℕ)
  pub known : List Bool

-- they are the first packets of a session
pub record ArePackets (scenario : Scenario) (cells : List (Option Told)) (packets : PacketList) : Type 0 where
  pub size : packets.size ≡ scenario.size
  pub lines : (k : ℕ) → k < length packets.active →
      slice_index_or packets.active k [] ≡ active (table_of scenario cells k)
  pub known : (k : ℕ) → k < length packets.known →
      slice_index_or packets.known k false ≡ is_known scenario cells k

abbrev pub lines_of : Run → List (List ℕ)
lines_of run = replicate run.packets run.lines.items

abbrev pub active_in : List Run → List (List ℕ)
active_in runs = flat_map lines_of runs

abbrev pub packets_in : ℕ → List Run → List Bool → PacketList
packets_in size runs known = record { size = size; active = active_in runs; known = known }

-- the octets of the rows under some packets: each governs 16 rows
abbrev pub octets_of : ℕ → List (List ℕ) → ℕ
octets_of size active = size * sum_by length active * 16

-- the place at which the rows of packet k begin
abbrev pub start_by : ℕ → List (List ℕ) → ℕ → ℕ
start_by size active k = octets_of size (take k active)

-- a run has few lines, and begins behind the rows of the runs before it
pub record Follows (size : ℕ) (before : List Run) (run : Run) : Type 0 where
  pub narrow : length run.lines.items ≤ most_lines
  pub row : run.row ≡ 24 + 16 * length (active_in before)
  pub start : run.start ≡ octets_of size (active_in before)

-- and so does each of some
pub record ArePacketRuns (size : ℕ) (runs : List Run) : Type 0 where
  pub each : (i : ℕ) (run : Run) → slice_get runs i ≡ Some run → Follows size (take i runs) run

-- runs next to each other have other lines
pub record AreApart (runs : List Run) : Type 0 where
  pub apart : (i : ℕ) (before after : Run) → slice_get runs i ≡ Some before → slice_get runs (suc i) ≡ Some after →
      before.lines.items ≢ after.lines.items

-- what is true of the fields: the runs are the longest ones, have all packets, and their rows end there
pub record IsPacketList (size : ℕ) (runs : List Run) (count end : ℕ) : Type 0 where
  pub small : size < 2 ^ 16
  pub begin : ArePacketRuns size runs
  pub longest : AreApart runs
  pub all : count ≡ length (active_in runs)
  pub few : count ≤ most_packets
  pub ends : end ≡ octets_of size (active_in runs)

-- a run is of packets of the list: the first of them, where its rows begin, and the lines of all
pub record IsRun (packets : PacketList) (run : Run) : Type 0 where
  pub first : ℕ
  pub row : run.row ≡ 24 + 16 * first
  pub start : run.start ≡ start_by packets.size packets.active first
  pub within : first + run.packets ≤ length packets.active
  pub few : length packets.active ≤ most_packets
  pub lines : (j : ℕ) → j < run.packets → slice_index_or packets.active (first + j) [] ≡ run.lines.items
  pub narrow : length run.lines.items ≤ most_lines
  pub low : run.start + 16 * run.packets * (packets.size * length run.lines.items) < 2 ^ 50
