-- What a step does to the ring of a line, and what it sends back.
use Rattle.std.specs.Prelude.{◌≡◌, ℕ, List, [], ◌∷◌, ◌++◌, Option, None}
use Rattle.law_model.specs.Common.{Cell}
use Rattle.law_model.specs.declared.control_packet.Packet.{Packet}
use Rattle.member_rows.specs.realign_rows.Gather.{Gather, line_count, with_cell, GatherStands as Gathers}
use Rattle.thread_rings.specs.EndsOfRing.{InEnd, in_passed}
use Rattle.terminal_sink.specs.declared.sink_core.sink_terminal.TakeAnswer.{TakeAnswer}
use Rattle.terminal_sink.specs.declared.sink_core.sink_terminal.TakeAnswer.TheVariants.{Taken, Waiting}
use Rattle.thread_sink.specs.ReceivedByRings.{received}

-- the rows have got a cell of a line
pub record Grew (was now : Gather) (line : ℕ) (cell : Cell) : Type 0 where
  pub gathers : (cells : List (List Cell)) → Gathers was cells → Gathers now (with_cell cells line cell)
  pub lines : line_count now ≡ line_count was
  pub rows : now.rows ≡ was.rows

-- a cell of a line was popped, and the rows have got it
pub record PoppedCell (old new : InEnd Cell) (was now : Gather) (line : ℕ) : Type 0 where
  pub cell : Cell
  pub passed : in_passed new ≡ in_passed old ++ cell ∷ []
  pub grew : Grew was now line cell

pub record TookCell (old new : List (InEnd Cell)) (was now : Gather) (line : ℕ) : Type 0 where
  pub cell : Cell
  pub passed : received new ≡ with_cell (received old) line cell
  pub grew : Grew was now line cell

-- the return packet of an answer
abbrev pub packet_in : TakeAnswer → Option Packet
packet_in (Taken back) = back
packet_in (Waiting line) = None
