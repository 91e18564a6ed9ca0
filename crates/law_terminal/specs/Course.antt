-- A session as far as it has come, with the return path.
use Rattle.std.specs.Prelude.{ℕ, ◌+◌, ◌*◌, ◌<◌, ◌≤◌, if◌then◌else◌, List, map, Option}
use Rattle.std.specs.List.{range_with_len}
use Rattle.law_model.specs.Common.{Cell, BackCell, packet_nibbles, Scenario, is_lost, packets, steps_in, Told, told_in}
use Rattle.law_model.specs.Common.{return_of, return_at, packets_of}
use Rattle.law_model.specs.declared.control_packet.Packet.{Packet}
use Rattle.member_cells.specs.declared.containers_and_cells.BackCell.TheVariants.{Packet as Nibbles, Lost}
use Rattle.law_line.specs.StableRows.{AreDecidedAt}
use Rattle.law_terminal.specs.SessionLines.{ComeOfLines}

-- what comes of return packet k, which a sink says by these cells
abbrev pub back_of : Scenario → List (List Cell) → ℕ → BackCell
back_of scenario cells k =
    if is_lost scenario k then Lost else Nibbles (packet_nibbles (return_at scenario.options cells k))

-- the return packet that the session makes, where the source was told these return cells: of the packets that can be
-- read
abbrev pub packet_by : Scenario → List (Option Told) → ℕ → Packet
packet_by scenario returns k =
    return_of scenario.options (map (packets_of scenario returns) (range_with_len 0 (k + 1))) k

-- what the first return cells tell the source
abbrev pub told_of : Scenario → List (List Cell) → ℕ → List (Option Told)
told_of scenario cells n = map (λ k. told_in (back_of scenario cells k)) (range_with_len 0 n)

-- so many frames were made, and for each decision step among them its return cell had come; of the lines these cells
-- came, of the
-- containers that the source makes by these first return cells; and each of those is what the sink says by the cells,
-- which decide
-- the row that ends its packet
pub record IsCourse (scenario : Scenario) (frames n : ℕ) (cells : List (List Cell)) : Type 0 where
  pub most : n ≤ packets scenario
  pub used : steps_in frames ≤ n + scenario.lag
  pub come : ComeOfLines scenario (told_of scenario cells n) frames cells
  pub decided : (k : ℕ) → k < n → AreDecidedAt cells (16 * k + 23)
