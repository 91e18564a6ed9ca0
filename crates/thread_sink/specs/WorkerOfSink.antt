-- What a worker of the sink has received, taken and sent.
use Rattle.std.specs.Prelude.{◌≡◌, ℕ, Bool, List}
use Rattle.law_model.specs.Common.{Cell}
use Rattle.law_model.specs.declared.script_types.Options.{Options}
use Rattle.thread_sink.specs.declared.sink_worker.SinkWorker.{SinkWorker}
use Rattle.thread_sink.specs.ReceivedByRings.{received}
use Rattle.terminal_sink.specs.sink_core.TakenAndGiven.{given_frames}
use Rattle.thread_sink.specs.Told.{count_of}
use Rattle.thread_sink.specs.SinkParts.{Parts, parts, Keeps, Later}

-- the cells of each line that were popped
abbrev pub cells_of : SinkWorker → List (List Cell)
cells_of worker = received worker.rx.items

abbrev pub parts_of : SinkWorker → Parts
parts_of worker = parts worker.rows worker.core worker.rx.items worker.back

-- how many lines there are
abbrev pub lines_of : SinkWorker → ℕ
lines_of worker = worker.core.lines

-- how many payload octets a container has
abbrev pub size_of : SinkWorker → ℕ
size_of worker = worker.core.size

-- by which options lines go down and come up, statuses are told, and it goes on or stops
abbrev pub options_of : SinkWorker → Options
options_of worker = worker.core.options

-- how many rows are taken in all
abbrev pub ticks_of : SinkWorker → ℕ
ticks_of worker = worker.ticks

-- how many rows were taken
abbrev pub taken_of : SinkWorker → ℕ
taken_of worker = worker.core.taken

-- how many frames were delivered; the count stops at 2^64 - 1
abbrev pub got_of : SinkWorker → ℕ
got_of worker = worker.got

-- whether a write failed
abbrev pub has_failed : SinkWorker → Bool
has_failed worker = worker.failed

-- the same worker, later
abbrev pub IsLater : SinkWorker → SinkWorker → Type 0
IsLater a b = (ticks_of b ≡ ticks_of a) × Later (parts_of a) (parts_of b)

-- the worker stands where the cells that were popped have brought it: rows, frames and return packets are those of
-- these cells, of which
-- the return packets were sent, and the frames counted
pub record SinkWorkerStands (worker : SinkWorker) : Type 0 where
  pub keeps : Keeps (parts_of worker)
  pub counted : got_of worker ≡ count_of (given_frames (options_of worker) (size_of worker) (cells_of worker)
      (taken_of worker))
