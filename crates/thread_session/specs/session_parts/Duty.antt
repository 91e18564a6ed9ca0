-- What a sink has written since its session began.
use Rattle.std.specs.Prelude.{ℕ, false, Option, Some, None}
use Rattle.text_report.specs.ReportLines.{got_texts}
use Rattle.terminal_sink.specs.sink_core.TakenAndGiven.{given_frames}
use Rattle.text_got.specs.TextSoFar.{Seen, known_of, faults_of}
use Rattle.thread_sink.specs.Told.{Writes}
use Rattle.thread_sink.specs.declared.sink_worker.SinkWorker.{SinkWorker}
use Rattle.thread_alarms.specs.declared.alarm_log.log_turns.AlarmLog.{AlarmLog}
use Rattle.thread_alarms.specs.alarm_log.Logs.{SameLog}
use Rattle.thread_sink.specs.WorkerOfSink.{SinkWorkerStands, IsLater, cells_of, options_of, size_of, taken_of, has_failed}

-- how a session began: what the sink had written and how many writes had failed; the name of the reference by which is
-- written; its worker;
-- and its log, where lines are watched
pub record Begun : Type 0 where
  pub first : Seen
  pub name : ℕ
  pub sink : SinkWorker
  pub log : Option AlarmLog

-- the worker is later, and has written since then the lines of all frames that its rows give, or a prefix of them up to
-- a write that failed
pub record HasRun (begun : Begun) (sink : SinkWorker) (now : Seen) : Type 0 where
  pub stands : SinkWorkerStands sink
  pub later : IsLater begun.sink sink
  pub told : Writes known_of faults_of false (has_failed sink) begun.first now
      (got_texts (given_frames (options_of sink) (size_of sink) (cells_of sink) (taken_of sink)))

-- the same log later, or none as before
abbrev pub IsLogLater : Option AlarmLog → Option AlarmLog → Type 0
IsLogLater None None = Unit {0}
IsLogLater None (Some log) = ⊥
IsLogLater (Some log) None = ⊥
IsLogLater (Some log) (Some later) = SameLog log later
