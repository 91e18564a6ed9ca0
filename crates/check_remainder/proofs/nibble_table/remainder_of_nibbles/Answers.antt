-- Nothing is left of no word.
use Rattle.std.proofs.Common.{◌∙◌, ap, sym, false, replicate, pow_pos}
use Rattle.check_remainder.proofs.NumberAndOctetBitsLaws.{bits-zero}
use Rattle.check_remainder.proofs.LongDivisionRemainderLaws.{remainder-nil}
use Rattle.check_remainder.proofs.nibble_table.remainder_of_nibbles.Goals as goal

pub loop-nibble-init : goal.loop-nibble-init
loop-nibble-init g c = record {
  within = pow_pos g.row.DEGREE;
  remainder = λ lower size is_table. bits-zero g.row.DEGREE ∙ ap (λ n. replicate n false) (sym size)
      ∙ sym (remainder-nil lower);
}
