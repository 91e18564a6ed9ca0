-- The word has the PLI above its check, under the mask.
use Rattle.std.proofs.Common.{rules, ◌≡◌, ◌+◌, ◌*◌, ◌^◌, bit_xor, w32, ap₂, ◌∙◌}
use Rattle.std.specs.Int.{to_be_bytes}
use Rattle.law_model.proofs.CoreHeaderLaws.{written}
use Rattle.gfp_headers.proofs.core_header.core_bytes.Goals as goal

pub returns : goal.returns
returns c =
    let pli : c.from.result ≡ c.args.pli = c.from.ensures in
    let check : c.from-2.result ≡ c.hec.result = c.from-2.ensures in
    let octets : c.to_le_bytes.result ≡ to_be_bytes w32 (bit_xor (c.from.result * 2 ^ 16 + c.from-2.result) 0xb6ab31e0)
    = search rules in
    octets
    ∙ ap₂ (λ a b. to_be_bytes w32 (bit_xor (a * 2 ^ 16 + b) 0xb6ab31e0)) pli check
    ∙ written c.args.pli c.hec.result c.hec.type_inv c.hec.ensures.value
