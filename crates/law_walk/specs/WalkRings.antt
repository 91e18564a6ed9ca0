-- What the rings of a walk hold, by its counts.
use Rattle.std.specs.Prelude.{ℕ, min, ◌<◌, List, map, take, drop, length, slice_index_or}
use Rattle.std.specs.List.{range_with_len}
use Rattle.law_model.specs.Common.{Container, Cell, BackCell, Leg, cells, scenario_by, carried_by, container_of}
use Rattle.law_model.specs.Common.{return_at, LineCounts, Counts, in_return, used_in, in_inbox}
use Rattle.law_model.specs.declared.control_packet.Packet.{Packet}
use Rattle.law_terminal.specs.Course.{back_of}
use Rattle.law_walk.specs.Walk.{session_of, sent_on, walk_plan, counts_at, cells_on, path_on}

-- ---- a line, by its numbers
-- its delay, and all its cells
abbrev pub delay_on : Leg → ℕ → ℕ
delay_on leg line = slice_index_or leg.config.delays line 0

abbrev pub line_cells : Leg → ℕ → List Cell
line_cells leg line = cells_on (scenario_by leg) (delay_on leg line) line

-- the cells that were popped of each line before line m decide row t
abbrev pub AreDecidedBefore : Leg → List LineCounts → ℕ → ℕ → Type 0
AreDecidedBefore leg lines m t = (i : ℕ) → i < m → t < (path_on leg i).decided (counts_at lines i).popped

-- the container that it is sent in frame t
abbrev pub sent_at : Leg → ℕ → ℕ → Container
sent_at leg line t = container_of (scenario_by leg) (session_of leg) line t

-- the containers that its first carries take
abbrev pub taken_by : Leg → ℕ → ℕ → List Container
taken_by leg line carries = take (min carries leg.config.ticks) (sent_on (scenario_by leg) line)

-- the cells that they give
abbrev pub cells_by : Leg → ℕ → ℕ → List Cell
cells_by leg line carries =
    cells (carried_by (scenario_by leg) line) (delay_on leg line) leg.config.ticks
    (sent_on (scenario_by leg) line) carries

-- the containers of some ticks that they don't take
abbrev pub send_by : Leg → ℕ → ℕ → ℕ → List Container
send_by leg line ticks carries =
    drop (min carries leg.config.ticks) (take ticks (sent_on (scenario_by leg) line))

-- the cells that they give but those that were popped
abbrev pub receive_by : Leg → ℕ → ℕ → ℕ → List Cell
receive_by leg line carries popped = drop popped (cells_by leg line carries)

-- ---- the return path
-- all cells of each line
abbrev pub all_lines : Leg → List (List Cell)
all_lines leg = map (line_cells leg) (range_with_len 0 (length leg.config.windows))

-- return packet k as the sink says it, and what comes of it
abbrev pub said_packet : Leg → ℕ → Packet
said_packet leg k = return_at leg.config.options (all_lines leg) k

abbrev pub back_cell : Leg → ℕ → BackCell
back_cell leg k = back_of (scenario_by leg) (all_lines leg) k

-- the packets that were said and haven't come to the source
abbrev pub return_ring : Leg → Counts → List Packet
return_ring leg s = map (said_packet leg) (range_with_len s.backs (in_return s))

-- the return cells that have come and that no decision step has taken
abbrev pub inbox : Leg → Counts → List BackCell
inbox leg s = map (back_cell leg)
    (range_with_len (used_in leg.config.lag s.ticks) (in_inbox (walk_plan leg) s))
