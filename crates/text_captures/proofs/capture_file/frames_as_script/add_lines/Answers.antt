-- A line more; and all of them.
use Rattle.std.proofs.Common.{[], ◌∷◌, ◌++◌, ◌∙◌, sym, ap, subst, arith, append_assoc, append-nil}
use Rattle.text_got.specs.TextSoFar.{HasText}
use Rattle.text_captures.specs.capture_file.Reading.{client_frame, frames_behind}
use Rattle.text_captures.specs.capture_file.Texts.{frame_text, frame_texts}
use Rattle.text_captures.proofs.CaptureRecordReadingLaws.{has-ended, read-begun, read-more, due-is, texts-none}
use Rattle.text_captures.proofs.CaptureRecordReadingLaws.{texts-more}
use Rattle.text_captures.proofs.capture_file.frames_as_script.add_lines.Goals as goal

pub loop-record-init : goal.loop-record-init
loop-record-init g c = (
  [],
  read-begun c.args.form c.args.body.now c.new-clock.result c.new-clock.ensures.unit c.new-clock.ensures.stands,
  λ start text has.
      subst (HasText g.K.ByteSink.written g.K.ByteSink.faults c.args.got.now start)
      (sym (ap (λ l. text ++ l) (texts-none c.args.form) ∙ append-nil text)) has,
)

pub loop-record-preserved : goal.loop-record-preserved
loop-record-preserved g c =
    let form = c.args.form in
    let before = c.loop-record.invariant.0 in
    let head = c.in-Some.record.head in
    let octets = c.in-Some.record.octets.now in
    let more = read-more form c.args.body.now c.loop-record.rest.now c.in-Some.record.rest.now octets
    c.loop-record.clock c.due-due.new.self head before c.loop-record.invariant.1
    c.in-Some.ensures.some c.due-due.ensures.unit c.due-due.ensures.stands in (
      before ++ record { head = head; octets = octets } ∷ [],
      more,
      λ start text has.
          let old = frame_texts (frames_behind form [] before) in
          subst (HasText g.K.ByteSink.written g.K.ByteSink.faults c.add_line.new.got start)
          (append_assoc text old (frame_text
          (record { due = c.due-due.result; frame = client_frame form.has_fcs octets }))
          ∙ ap (λ l. text ++ l) (texts-more form before (record { head = head; octets = octets }) c.due-due.result
          (c.due-due.ensures.due ∙ due-is form _ _ _ _ more)))
          (c.add_line.ensures start (text ++ old) (c.loop-record.invariant.2 start text has)),
    )

pub returns : goal.returns
returns g c start text has =
    let form = c.args.form in
    let ended = has-ended form.order c.args.body.now c.loop-record.rest.now c.loop-record.invariant.0
    c.in_default.ensures.none c.loop-record.invariant.1.cut in
    subst (HasText g.K.ByteSink.written g.K.ByteSink.faults c.loop-record.got start)
    (ap (λ l. text ++ frame_texts (frames_behind form [] l)) (sym ended.0))
    (c.loop-record.invariant.2 start text has)
