-- What a sink takes, gives and says, by the cells of its lines alone (G.707, G.7041, G.7042).
use Rattle.std.specs.Prelude.{◌≡◌, ℕ, ◌-◌, ◌/◌, ◌%◌, ◌==◌, ◌&&◌, ◌<◌, ◌≤◌, nat_lt, Bool, false, if◌then◌else◌, List, []}
use Rattle.std.specs.Prelude.{map, length, drop, Option, Some, None, is_some}
use Rattle.std.specs.List.{range_with_len}
use Rattle.law_model.specs.Common.{Cell, Row, read_packets, row_at, carriers_at, first_open, return_at, StreamRow}
use Rattle.law_model.specs.Common.{deliver, longest_frame}
use Rattle.law_model.specs.declared.control_packet.Packet.{Packet}
use Rattle.law_model.specs.declared.script_types.Options.{Options}
use Rattle.member_rows.specs.realign_rows.Gather.{Gather, line_count, IsOpenAt, AreDecided}
use Rattle.law_loss.specs.AddedFrames.{whole_row, lost_row}
use Rattle.terminal_sink.specs.declared.sink_core.sink_terminal.TakeAnswer.{TakeAnswer}
use Rattle.terminal_sink.specs.declared.sink_core.sink_terminal.TakeAnswer.TheVariants.{Taken, Waiting}

-- ---- rows and frames
-- a row, where it is whole with these octets. What was sent in a row that isn't whole is not known
abbrev pub row_in : Option (List ℕ) → StreamRow
row_in None = lost_row []
row_in (Some octets) = whole_row octets

-- the first rows of a group, of which containers have a size of payload octets
abbrev pub received_rows : Options → ℕ → List (List Cell) → ℕ → List StreamRow
received_rows options size cells taken = map (λ t. row_in (row_at options size cells t)) (range_with_len 0 taken)

-- the frames that they give
abbrev pub given_frames : Options → ℕ → List (List Cell) → ℕ → List (List ℕ)
given_frames options size cells taken = deliver longest_frame (received_rows options size cells taken)

-- those that the rows up to a count give beside those of fewer rows
abbrev pub added_frames : Options → ℕ → List (List Cell) → ℕ → ℕ → List (List ℕ)
added_frames options size cells before taken =
    drop (length (given_frames options size cells before)) (given_frames options size cells taken)

-- it is known which lines carry payload in row t
abbrev pub knows_at : Options → List (List Cell) → ℕ → Bool
knows_at options cells t = if nat_lt t 24 then false else is_some (carriers_at options cells ((t - 24) / 16))

-- these lines carry payload in row t, or it isn't known which do. Of rows before 24 nothing is said
abbrev pub AreCarriers : Options → List (List Cell) → ℕ → Option (List ℕ) → Type 0
AreCarriers options cells t lines = 24 ≤ t → lines ≡ carriers_at options cells ((t - 24) / 16)

-- ---- return packets
-- the packets that were read, by row and line, of a count of packet rows
abbrev pub read_rows : List (List Cell) → ℕ → List Row
read_rows cells count = map (read_packets cells) (range_with_len 0 count)

-- how many packet rows have passed with rows: packet k ends with row 16 k + 23
abbrev pub packet_rows : ℕ → ℕ
packet_rows taken = (taken - 8) / 16

-- a packet ends with row t, which is 16 k + 23
abbrev pub IsPacketEnd : ℕ → Type 0
IsPacketEnd t = (22 < t) × (t % 16 ≡ 7)

-- the return packet that row t makes, where a packet ends with it
abbrev pub back_at : Options → List (List Cell) → ℕ → Option Packet
back_at options cells t = if nat_lt 22 t && t % 16 == 7 then Some (return_at options cells ((t - 23) / 16)) else None

-- ---- the answer
abbrev pub answer_by : Option ℕ → Options → List (List Cell) → ℕ → TakeAnswer
answer_by (Some line) options cells t = Waiting line
answer_by None options cells t = Taken (back_at options cells t)

-- the answer where t rows were taken: it waits for the first line whose cells don't decide row t, or the row is taken
abbrev pub answer_at : Options → List (List Cell) → ℕ → TakeAnswer
answer_at options cells t = answer_by (first_open cells t) options cells t

-- the line that an answer waits for
abbrev pub waiting_for : TakeAnswer → Option ℕ
waiting_for (Taken back) = None
waiting_for (Waiting line) = Some line

-- the return packet that it has
abbrev pub back_of : TakeAnswer → Option Packet
back_of (Taken back) = back
back_of (Waiting line) = None

-- how many rows an answer takes
abbrev pub rows_taken : TakeAnswer → ℕ
rows_taken (Taken back) = 1
rows_taken (Waiting line) = 0

-- it takes none
abbrev pub IsWaiting : TakeAnswer → Type 0
IsWaiting answer = (line : ℕ) × (answer ≡ Waiting line)

-- what an answer says of the rows that it was asked for: the next one was decided, or it isn't on a line
abbrev pub Allows : Gather → TakeAnswer → Type 0
Allows rows (Taken back) = AreDecided rows
Allows rows (Waiting line) = (line < line_count rows) × IsOpenAt rows line
