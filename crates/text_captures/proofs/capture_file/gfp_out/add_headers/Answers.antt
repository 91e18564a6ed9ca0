-- Three texts, one behind the other.
use Rattle.std.proofs.Common.{◌+◌, ◌++◌, ◌∙◌, ap, subst}
use Rattle.std.specs.Int.{w16, to_be_bytes}
use Rattle.law_model.specs.Common.{hec_of, type_header}
use Rattle.text_got.specs.TextSoFar.{HasText}
use Rattle.text_captures.proofs.WrittenCaptureFrameLaws.{three-behind}
use Rattle.text_captures.proofs.capture_file.gfp_out.add_headers.Goals as goal

pub returns : goal.returns
returns g c start before has =
    let pli = 4 + c.args.octets in
    let check = c.to_be_bytes-2.ensures ∙ ap (to_be_bytes w16) c.hec.ensures.value in
    subst (HasText g.K.ByteSink.written g.K.ByteSink.faults c.line-3.new.self start)
    (ap (λ l. before ++ l ++ c.to_be_bytes-2.result ++ c.type_bytes.result) c.to_be_bytes.ensures
    ∙ ap (λ l. before ++ to_be_bytes w16 pli ++ l ++ c.type_bytes.result) check
    ∙ ap (λ l. before ++ to_be_bytes w16 pli ++ to_be_bytes w16 (hec_of pli) ++ l) c.type_bytes.ensures
    ∙ three-behind before (to_be_bytes w16 pli) (to_be_bytes w16 (hec_of pli)) type_header)
    (c.line-3.ensures start _ (c.line-2.ensures start _ (c.line.ensures start before has)))
