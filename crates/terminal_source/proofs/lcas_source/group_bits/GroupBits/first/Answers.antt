-- The first of the fifteen bits is the most significant one of the register.
use Rattle.std.proofs.Common.{◌≡◌, ◌/◌, ◌%◌, ◌==◌, false, slice_index_or, sym, ◌∙◌, ap, arith}
use Rattle.terminal_source.proofs.GroupBitAndReturnStatusLaws.{bit_0}
use Rattle.terminal_source.proofs.lcas_source.group_bits.GroupBits.first.Goals as goal

pub returns : goal.returns
returns c =
    let register = c.self.inside.register in
    let below = c.self.invariant in
    let whole : register / 16384 ≡ register / 16384 % 2 = omega arith in
    ap (λ bit. bit == 1) whole ∙ sym (bit_0 register) ∙ ap (λ bits. slice_index_or bits 0 false) c.self.view_is
