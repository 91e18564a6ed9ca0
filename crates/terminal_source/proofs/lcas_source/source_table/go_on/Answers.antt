-- The bits of a packet, moved on by one, are those of the next one.
use Rattle.std.proofs.Common.{◌≡◌, ◌+◌, ◌-◌, ◌++◌, ◌∷◌, [], false, drop, slice_index_or, sym, ◌∙◌, ap, arith}
use Rattle.law_model.specs.Common.{xor, bits_from}
use Rattle.terminal_source.proofs.GroupBitAndReturnStatusLaws.{bits_from-next}
use Rattle.terminal_source.proofs.lcas_source.source_table.go_on.Goals as goal

pub returns-then-packets-gt0 : goal.returns-then-packets-gt0
returns-then-packets-gt0 c =
    let next : c.args.packets - 1 + 1 ≡ c.args.packets = omega arith in
    c.advance.ensures
    ∙ ap (λ bits. drop 1 bits ++ xor (slice_index_or bits 0 false) (slice_index_or bits 1 false) ∷ []) c.requires
    ∙ sym (bits_from-next (c.args.packets - 1)) ∙ ap bits_from next
