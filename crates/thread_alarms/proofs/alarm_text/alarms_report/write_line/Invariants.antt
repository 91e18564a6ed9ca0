-- The alarms of the line so far are written.
use Rattle.std.proofs.Common.{ℕ, List, ◌++◌, take}
use Rattle.law_model.specs.Common.{Start}
use Rattle.text_got.specs.TextSoFar.{HasText}
use Rattle.thread_alarms.specs.alarm_log.Alarms.{of_line}
use Rattle.thread_alarms.specs.alarm_text.AlarmTextLines.{alarm_texts}
use Rattle.thread_alarms.proofs.alarm_text.alarms_report.write_line.Given as goal

abbrev pub invariant-loop-alarm : goal.invariant-loop-alarm
invariant-loop-alarm g l = (start : Start) (before : List ℕ) →
    HasText g.K.ByteSink.written g.K.ByteSink.faults l.fn.got start before
    → HasText g.K.ByteSink.written g.K.ByteSink.faults l.got start
    (before ++ alarm_texts (of_line l.line (take l.alarm-index l.alarms)))
