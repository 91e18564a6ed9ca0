-- What a sink knows of the cells of its lines.
use Rattle.std.specs.Prelude.{◌≡◌, ℕ, ◌<◌, List, length}
use Rattle.law_model.specs.Common.{Cell}
use Rattle.law_model.specs.declared.script_types.Options.{Options}
use Rattle.law_line.specs.StableRows.{AreDecidedAt}
use Rattle.terminal_sink.specs.marked_delineator.Marks.{Marked as Receiver}
use Rattle.terminal_sink.specs.lcas_sink.SinkStates.{Sink}
use Rattle.terminal_sink.specs.lcas_sink.SinkStates as sink_table
use Rattle.terminal_sink.specs.sink_core.TakenAndGiven.{received_rows, read_rows, packet_rows}
use Rattle.terminal_sink.specs.sink_core.RowsInReceiver.{Receives}

-- how many lines there are, how many payload octets a container has, the options, how many rows were taken, its
-- receiver, and its table
pub record Core : Type 0 where
  pub lines : ℕ
  pub size : ℕ
  pub options : Options
  pub taken : ℕ
  pub receiver : Receiver
  pub table : Sink

-- the rows that were taken were those of these cells, which may be more than were there then
pub record SinkStands (core : Core) (cells : List (List Cell)) : Type 0 where
  pub lines : length cells ≡ core.lines
  pub receives : Receives core.receiver (received_rows core.options core.size cells core.taken)
  pub table : sink_table.SinkTableStands core.table (read_rows cells (packet_rows core.taken))
  pub decided : (t : ℕ) → t < core.taken → AreDecidedAt cells t
