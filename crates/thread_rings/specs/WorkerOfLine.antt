-- What a worker of a line has carried.
use Rattle.std.specs.Prelude.{◌≡◌, ℕ, ◌+◌, ◌<◌, ◌≤◌, List, [], ◌++◌, length}
use mathlib.Core.List.{IsPrefix}
use Rattle.law_model.specs.Common.{one_more}
use Rattle.law_model.specs.declared.window_types.Window.{Window}
use Rattle.thread_rings.specs.EndsOfRing.{out_passed, out_free, out_misses, in_passed, in_items, in_misses, SameOut, SameIn}
use Rattle.thread_rings.specs.declared.alarm_kinds.Alarm.{Alarm}
use Rattle.thread_rings.specs.LineAlarms.{alarms_of_line}
use Rattle.thread_rings.specs.declared.line_worker.LineWorker.{LineWorker}

-- the number of the line
abbrev pub number_of : LineWorker → ℕ
number_of worker = worker.line

-- the delay of the line in containers
abbrev pub delay_of : LineWorker → ℕ
delay_of worker = worker.core.delay

-- the windows of the line
abbrev pub windows_of : LineWorker → List Window
windows_of worker = worker.core.windows

-- how many containers the line carries in all
abbrev pub total_of : LineWorker → ℕ
total_of worker = worker.core.total

-- how often the line was flushed
abbrev pub flushes_of : LineWorker → ℕ
flushes_of worker = worker.core.flushed

-- how many carries were made: one for each container, and one for each flush
abbrev pub carries_of : LineWorker → ℕ
carries_of worker = length (in_passed worker.consumer) + flushes_of worker

-- the alarms of all cells that it sent
abbrev pub raised_by : LineWorker → List Alarm
raised_by worker = alarms_of_line (number_of worker) (out_passed worker.producer)

-- those that its last burst raised
abbrev pub last_raised : LineWorker → List Alarm
last_raised worker = worker.raised.alarms.items

-- the worker of the same line over the same rings, at another moment
pub record SameWorker (a b : LineWorker) : Type 0 where
  pub number : number_of b ≡ number_of a
  pub delay : delay_of b ≡ delay_of a
  pub windows : windows_of b ≡ windows_of a
  pub total : total_of b ≡ total_of a
  pub consumer : SameIn a.consumer b.consumer
  pub producer : SameOut a.producer b.producer

-- the same worker, later
pub record IsLater (a b : LineWorker) : Type 0 where
  pub same : SameWorker a b
  pub received : IsPrefix (in_passed a.consumer) (in_passed b.consumer)
  pub flushes : flushes_of a ≤ flushes_of b

-- not all containers were popped, none was known to be there, and a look at the ring missed
pub record WasEmpty (a b : LineWorker) : Type 0 where
  pub more : length (in_passed a.consumer) < total_of a
  pub none : in_items a.consumer ≡ []
  pub missed : in_misses b.consumer ≡ one_more (in_misses a.consumer)
  pub other : out_misses b.producer ≡ out_misses a.producer

-- the next container is there, or all were popped; no slot for a cell was known to be free, and a look at the ring
-- missed
pub record WasFull (a b : LineWorker) : Type 0 where
  pub ready : length (in_passed a.consumer) < total_of a → 0 < length (in_items b.consumer)
  pub none : out_free a.producer ≡ 0
  pub missed : out_misses b.producer ≡ one_more (out_misses a.producer)
  pub other : in_misses b.consumer ≡ in_misses a.consumer

-- the same worker later: where places are numbers of 32 bits, the alarms of what it sent since were added to those of
-- its last burst
pub record HasNoted (a b : LineWorker) : Type 0 where
  pub grown : length (out_passed a.producer) ≤ length (out_passed b.producer)
  pub alarms : length (out_passed b.producer) ≤ 4294967296 → (before : List Alarm) →
      before ++ last_raised a ≡ raised_by a → before ++ last_raised b ≡ raised_by b
