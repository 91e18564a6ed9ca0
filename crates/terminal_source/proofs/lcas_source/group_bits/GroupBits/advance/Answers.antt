-- The first bit leaves the register, and the sum of the first two comes in behind the last one.
use Rattle.std.proofs.Common.{◌∷◌, [], ◌++◌, false, drop, slice_index_or, ◌∙◌, ap}
use Rattle.law_model.specs.Common.{xor}
use Rattle.terminal_source.proofs.GroupBitAndReturnStatusLaws.{bits-advanced}
use Rattle.terminal_source.proofs.lcas_source.group_bits.GroupBits.advance.Goals as goal

pub returns : goal.returns
returns c =
    bits-advanced c.self.inside.register c.self.invariant
    ∙ ap (λ bits. drop 1 bits ++ xor (slice_index_or bits 0 false) (slice_index_or bits 1 false) ∷ []) c.self.view_is
