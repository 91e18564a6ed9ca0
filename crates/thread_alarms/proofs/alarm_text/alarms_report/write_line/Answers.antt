-- One alarm more.
use Rattle.std.proofs.Common.{◌++◌, take, sym, ◌∙◌, ap, subst, append_assoc}
use Rattle.text_got.specs.TextSoFar.{HasText}
use Rattle.thread_alarms.specs.alarm_log.Alarms.{of_line}
use Rattle.thread_alarms.specs.alarm_text.AlarmTextLines.{alarm_texts}
use Rattle.thread_alarms.proofs.AlarmsByPostAndLineLaws.{text_next}
use Rattle.thread_alarms.proofs.alarm_text.alarms_report.write_line.Goals as goal

pub loop-alarm-preserved : goal.loop-alarm-preserved
loop-alarm-preserved g c start before fresh =
    let so_far = alarm_texts (of_line c.args.line (take c.loop-alarm.alarm-index c.args.alarms.now)) in
    subst (HasText g.K.ByteSink.written g.K.ByteSink.faults c.write_one.new.got start)
    (append_assoc before so_far _
    ∙ ap (λ l. before ++ l)
    (sym (text_next c.args.line c.args.alarms.now c.loop-alarm.alarm-index _ c.loop-alarm-test.true)))
    (c.write_one.ensures start (before ++ so_far) (c.loop-alarm.invariant start before fresh))
