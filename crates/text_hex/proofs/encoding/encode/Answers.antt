-- The octets of whole sixteens, and the others.
use Rattle.std.proofs.Common.{◌≡◌, ℕ, ◌-◌, ◌*◌, ◌/◌, List, ◌++◌, length, take, drop, sym, ◌∙◌, ap, ap₂, arith}
use Rattle.std.proofs.Common.{length-drop, take_all, take-append-drop}
use Rattle.hex.specs.Hex.{encode_lower, lower_digits}
use Rattle.text_hex.proofs.HexDigitLanesLaws.{encode-append}
use Rattle.text_hex.proofs.encoding.encode.Goals as goal

pub returns : goal.returns
returns c =
    let octets : List ℕ = c.args.octets.now in
    let whole : ℕ = length octets / 16 * 16 in
    let rest : take (length octets - whole) (drop whole octets) ≡ drop whole octets =
    take_all (length octets - whole) (drop whole octets) (omega (arith, length-drop whole octets)) in
    ap₂ (λ l m. l ++ m) c.encode_sixteens.ensures (c.encode_each.ensures ∙ ap encode_lower rest)
    ∙ sym (encode-append lower_digits (take whole octets) (drop whole octets))
    ∙ ap encode_lower (take-append-drop whole octets)
