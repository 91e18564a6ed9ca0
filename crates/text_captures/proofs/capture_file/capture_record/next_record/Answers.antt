-- The record that stands at the front.
use Rattle.std.proofs.Common.{◌≡◌, ◌+◌, ◌-◌, take, drop, ap, arith}
use Rattle.std.proofs.lemmas.List.{take_rest}
use Rattle.text_captures.proofs.CaptureRecordReadingLaws.{record-there}
use Rattle.text_captures.proofs.capture_file.capture_record.next_record.Goals as goal

pub returns-clause-some : goal.returns-clause-some
returns-clause-some c =
    let head = c.head_of-head.result in
    let n : 16 + head.captured - 16 ≡ head.captured = omega arith in
    record-there c.args.order c.args.octets.now _ _ head c.head_of-head.ensures (omega arith)
    (ap (λ n. take n (drop 16 c.args.octets.now)) n) (take_rest c.args.octets.now (16 + head.captured))
