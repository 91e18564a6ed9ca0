-- One line of the group more.
use Rattle.std.proofs.Common.{◌++◌, sym, ◌∙◌, ap, subst, append_assoc}
use Rattle.law_model.proofs.ListLaws.{texts-more}
use Rattle.text_got.specs.TextSoFar.{HasText}
use Rattle.thread_alarms.specs.alarm_log.Alarms.{of_line}
use Rattle.thread_alarms.specs.alarm_text.AlarmTextLines.{alarm_texts, lines_text}
use Rattle.thread_alarms.proofs.alarm_text.alarms_report.write_alarms.Goals as goal

pub loop-line-preserved : goal.loop-line-preserved
loop-line-preserved g c start before fresh =
    let line = c.loop-line.line in
    let alarms = c.args.alarms.now in
    let so_far = lines_text line alarms in
    subst (HasText g.K.ByteSink.written g.K.ByteSink.faults c.write_line.new.got start)
    (append_assoc before so_far (alarm_texts (of_line line alarms))
    ∙ ap (λ l. before ++ l) (sym (texts-more (λ m. alarm_texts (of_line m alarms)) line)))
    (c.write_line.ensures start (before ++ so_far) (c.loop-line.invariant start before fresh))
