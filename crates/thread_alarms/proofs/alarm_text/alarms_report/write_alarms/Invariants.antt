-- The alarms of the lines so far are written.
use Rattle.std.proofs.Common.{ℕ, List, ◌++◌}
use Rattle.law_model.specs.Common.{Start}
use Rattle.text_got.specs.TextSoFar.{HasText}
use Rattle.thread_alarms.specs.alarm_text.AlarmTextLines.{lines_text}
use Rattle.thread_alarms.proofs.alarm_text.alarms_report.write_alarms.Given as goal

abbrev pub invariant-loop-line : goal.invariant-loop-line
invariant-loop-line g l = (start : Start) (before : List ℕ) →
    HasText g.K.ByteSink.written g.K.ByteSink.faults l.fn.got start before
    → HasText g.K.ByteSink.written g.K.ByteSink.faults l.got start (before ++ lines_text l.line l.alarms)
