-- The register has the remainder of the nibbles so far, and no more bits than the degree.
use Rattle.std.proofs.Common.{◌≡◌, ◌^◌, ◌<◌, Bool, List, length, take}
use Rattle.check_remainder.specs.Bits.{bits}
use Rattle.check_remainder.specs.Remainder.{remainder}
use Rattle.check_remainder.specs.DivisionTable.{IsTable, nibble_bits}
use Rattle.check_remainder.proofs.nibble_table.remainder_of_nibbles.Given as goal

abbrev pub invariant-loop-nibble : goal.invariant-loop-nibble
invariant-loop-nibble g l = record {
  within : l.register < 2 ^ g.row.DEGREE;
  remainder : (lower : List Bool) → length lower ≡ g.row.DEGREE → IsTable lower l.table →
      bits g.row.DEGREE l.register ≡ remainder lower (nibble_bits (take l.nibble-index l.nibbles));
}
