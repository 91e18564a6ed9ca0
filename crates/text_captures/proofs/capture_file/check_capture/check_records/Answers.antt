-- A record more is sound, or has the first fault; or no whole one is left.
use Rattle.std.proofs.Common.{◌++◌, [], ◌∷◌, length, sym, ◌∙◌, ap, refl, arith, length-append}
use Rattle.std.proofs.lemmas.Bool.{eqb-true, eqb-false}
use Rattle.std.proofs.lemmas.List.{nil_from_length}
use Rattle.text_captures.specs.capture_file.Form.{records_of}
use Rattle.text_captures.specs.capture_file.Reading.{record_fault}
use Rattle.text_captures.proofs.CaptureRecordReadingLaws.{has-next-then, has-ended, found-short}
use Rattle.text_captures.proofs.CaptureRecordReadingLaws.{sound-begun, sound-more, said-fault, said-cut, said-sound}
use Rattle.text_captures.proofs.CaptureRecordReadingLaws.{read-begun, read-more, due-is}
use Rattle.text_captures.proofs.capture_file.check_capture.check_records.Goals as goal

pub loop-record-init : goal.loop-record-init
loop-record-init c = record {
  before = [];
  read = read-begun c.args.form c.args.body.now c.new-clock.result c.new-clock.ensures.unit c.new-clock.ensures.stands;
  count = refl;
  few = omega arith;
  sound = sound-begun c.args.form;
}

pub returns-in-Some-record_fault-clause-fault : goal.returns-in-Some-record_fault-clause-fault
returns-in-Some-record_fault-clause-fault c =
    let form = c.args.form in
    let has = c.loop-record.invariant in
    let more = read-more form c.args.body.now c.loop-record.rest.now c.in-Some.record.rest.now
    c.in-Some.record.octets.now c.loop-record.clock c.due-due.new.self c.in-Some.record.head has.before
    has.read c.in-Some.ensures.some c.due-due.ensures.unit c.due-due.ensures.stands in
    said-fault form c.args.body.now has.before (records_of form.order c.in-Some.record.rest.now)
    (record { head = c.in-Some.record.head; octets = c.in-Some.record.octets.now })
    c.in-Some-record_fault.fault c.loop-record.number
    (has-next-then form.order c.args.body.now c.loop-record.rest.now c.in-Some.record.rest.now has.before _
    c.in-Some.ensures.some has.read.cut) has.count has.sound
    (ap (record_fault form.has_fcs c.in-Some.record.head) (sym (c.due-due.ensures.due ∙ due-is form _ _ _ _ more))
    ∙ sym c.record_fault.ensures ∙ c.in-Some-record_fault.is)

pub overflow_add-number : goal.overflow_add-number
overflow_add-number c = omega (arith, c.loop-record.invariant.few, c.type_inv.body)

pub loop-record-preserved : goal.loop-record-preserved
loop-record-preserved c =
    let form = c.args.form in
    let has = c.loop-record.invariant in
    let more = read-more form c.args.body.now c.loop-record.rest.now c.in-Some.record.rest.now
    c.in-Some.record.octets.now c.loop-record.clock c.due-due.new.self c.in-Some.record.head has.before
    has.read c.in-Some.ensures.some c.due-due.ensures.unit c.due-due.ensures.stands in
    let short = found-short form.order c.loop-record.rest.now _ c.in-Some.ensures.some in
    record {
      before = has.before ++ record { head = c.in-Some.record.head; octets = c.in-Some.record.octets.now } ∷ [];
      read = more;
      count = omega (
        arith,
        has.count,
        length-append has.before (record { head = c.in-Some.record.head; octets = c.in-Some.record.octets.now } ∷
            []),
      );
      few = omega (arith, has.few, short);
      sound =
          sound-more form has.before _ has.sound
          (ap (record_fault form.has_fcs c.in-Some.record.head) (sym (c.due-due.ensures.due ∙ due-is form _ _ _ _ more))
          ∙ sym c.record_fault.ensures ∙ c.in_default-record_fault.is);
    }

pub returns-then-is_empty-clause-sound : goal.returns-then-is_empty-clause-sound
returns-then-is_empty-clause-sound c =
    let form = c.args.form in
    let has = c.loop-record.invariant in
    let ended = has-ended form.order c.args.body.now c.loop-record.rest.now has.before c.in_default.ensures.none
    has.read.cut in
    said-sound form c.args.body.now has.before ended.0
    (ended.1 ∙ nil_from_length c.loop-record.rest.now
    (eqb-true (length c.loop-record.rest.now) 0 (sym c.if-is_empty.ensures))) has.sound

pub returns-clause-fault : goal.returns-clause-fault
returns-clause-fault c =
    let form = c.args.form in
    let has = c.loop-record.invariant in
    let ended = has-ended form.order c.args.body.now c.loop-record.rest.now has.before c.in_default.ensures.none
    has.read.cut in
    said-cut form c.args.body.now c.loop-record.rest.now has.before c.loop-record.number ended.0 ended.1 has.count
    has.sound (let some = eqb-false (length c.loop-record.rest.now) 0 (sym c.if-is_empty.ensures) in omega
    (arith, some))
