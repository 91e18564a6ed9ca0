-- Two digits for each octet of a frame; another item is no frame.
use Rattle.std.proofs.Common.{◌≡◌, ◌∙◌, ◌*◌, ℕ, ap, sym, length}
use Rattle.hex.specs.Hex.{encode_lower}
use Rattle.law_model.specs.declared.script_types.ItemKind.TheVariants.{Frame}
use Rattle.text_scripts.proofs.ScriptTextGrowthLaws.{count-more, length-digits}
use Rattle.text_scripts.proofs.script_text.text_out.TextSizeTextOut.digits.Goals as goal

pub returns-in-Frame : goal.returns-in-Frame
returns-in-Frame c due octets there start before has =
    let head = c.head.ensures (record { due = due; kind = Frame octets }) there in
    let sort = sym c.in-Frame.is ∙ ap (λ h. h.sort) head in
    let size : c.in-Frame.octets ≡ length octets = cc in
    count-more before (encode_lower octets) c.args.self.now.octets c.add.new.self.octets (2 * c.in-Frame.octets) 67108865 has
    (ap (λ (n : ℕ). 2 * n) size ∙ sym (length-digits octets)) c.add.ensures

pub returns-in_default : goal.returns-in_default
returns-in_default c due octets there start before has =
    let head = c.head.ensures (record { due = due; kind = Frame octets }) there in
    absurd (c.in_default.not-Frame (length octets) (ap (λ h. h.sort) head))
