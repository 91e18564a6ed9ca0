-- The register's upper four bits and the nibble choose the entry, and its lower bits move up.
use Rattle.std.proofs.Common.{◌-◌, ◌/◌, ◌^◌, ◌<◌, bit_xor, sym, subst, ap, ◌∙◌}
use Rattle.check_remainder.specs.Bits.{bits}
use Rattle.check_remainder.proofs.LongDivisionRemainderLaws.{index_below, computed, result_below, nibble_step}
use Rattle.check_remainder.proofs.nibble_table.with_nibble.Goals as goal

pub bounds-table-upper : goal.bounds-table-upper
bounds-table-upper g c =
    subst (λ n. bit_xor (c.args.register / 2 ^ (g.row.DEGREE - 4)) n < 16) (sym c.from.ensures)
    (index_below g.row.DEGREE c.args.register c.args.nibble c.requires.least c.requires.register c.requires.nibble)

pub returns-clause-within : goal.returns-clause-within
returns-clause-within g c =
    subst (λ n. n < 2 ^ g.row.DEGREE)
    (sym (computed g.row.DEGREE c.args.register c.args.nibble c.from.result c.args.table.now c.requires.least
    c.requires.most c.from.ensures))
    (result_below g.row.DEGREE c.args.register c.args.nibble c.args.table.now c.requires.least c.requires.register
    c.requires.nibble c.told-table c.requires.entries)

pub returns-clause-behind : goal.returns-clause-behind
returns-clause-behind g c lower word size is_table stands =
    ap (bits g.row.DEGREE) (computed g.row.DEGREE c.args.register c.args.nibble c.from.result c.args.table.now
    c.requires.least c.requires.most c.from.ensures)
    ∙ nibble_step g.row.DEGREE lower word c.args.table.now c.args.register c.args.nibble c.requires.least
    c.requires.register c.requires.nibble size is_table stands
