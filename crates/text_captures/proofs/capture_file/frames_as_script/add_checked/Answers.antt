-- The digits of the octets, and those of their FCS.
use Rattle.std.proofs.Common.{◌++◌, ◌∙◌, sym, ap, subst, append_assoc}
use Rattle.hex.specs.Hex.{encode_lower}
use Rattle.check_crc32.specs.Crc32.{least_first, fcs_in}
use Rattle.text_got.specs.TextSoFar.{HasText}
use Rattle.text_got.proofs.ToldTextGrowthLaws.{digits-append}
use Rattle.text_captures.proofs.capture_file.frames_as_script.add_checked.Goals as goal

pub returns : goal.returns
returns g c start before has =
    let octets = c.args.octets.now in
    subst (HasText g.K.ByteSink.written g.K.ByteSink.faults c.hex-2.new.self start)
    (ap (λ l. before ++ encode_lower octets ++ encode_lower l) c.ethernet_fcs.ensures
    ∙ append_assoc before (encode_lower octets) (encode_lower (fcs_in least_first octets))
    ∙ ap (λ l. before ++ l) (sym (digits-append octets (fcs_in least_first octets))))
    (c.hex-2.ensures start (before ++ encode_lower octets) (c.hex.ensures start before has))
