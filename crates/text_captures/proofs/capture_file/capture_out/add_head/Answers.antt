-- Four numbers, one behind the other.
use Rattle.std.proofs.Common.{◌*◌, ◌/◌, ◌%◌, ◌++◌, ◌∙◌, ap, subst}
use Rattle.std.specs.Int.{w32, to_le_bytes}
use Rattle.text_got.specs.TextSoFar.{HasText}
use Rattle.text_captures.specs.capture_file.WrittenCapture.{record_head}
use Rattle.text_captures.proofs.WrittenCaptureFrameLaws.{four-behind}
use Rattle.text_captures.proofs.capture_file.capture_out.add_head.Goals as goal

pub returns : goal.returns
returns g c start before has =
    let row = c.from-time.result in
    let octets = c.args.octets in
    subst (HasText g.K.ByteSink.written g.K.ByteSink.faults c.line-4.new.self start)
    (ap (λ l. before ++ l ++ c.to_le_bytes-2.result ++ c.to_le_bytes-3.result ++ c.to_le_bytes-4.result)
    c.to_le_bytes.ensures
    ∙ ap (λ l. before ++ to_le_bytes w32 (125 * row / 1000000) ++ l ++ c.to_le_bytes-3.result ++ c.to_le_bytes-4.result)
    c.to_le_bytes-2.ensures
    ∙ ap (λ l. before ++ to_le_bytes w32 (125 * row / 1000000) ++ to_le_bytes w32
    (125 * row % 1000000) ++ l ++ c.to_le_bytes-4.result) c.to_le_bytes-3.ensures
    ∙ ap (λ l. before ++ to_le_bytes w32 (125 * row / 1000000) ++ to_le_bytes w32
    (125 * row % 1000000) ++ to_le_bytes w32 octets ++ l) c.to_le_bytes-4.ensures
    ∙ four-behind before (to_le_bytes w32 (125 * row / 1000000)) (to_le_bytes w32 (125 * row % 1000000))
    (to_le_bytes w32 octets) (to_le_bytes w32 octets)
    ∙ ap (λ row. before ++ record_head row octets) c.from-time.ensures)
    (c.line-4.ensures start _ (c.line-3.ensures start _ (c.line-2.ensures start _ (c.line.ensures start before has))))
