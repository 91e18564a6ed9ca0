-- The first fifteen bits are 1.
use Rattle.std.proofs.Common.{sym}
use Rattle.terminal_source.proofs.GroupBitAndReturnStatusLaws.{bits_from-zero}
use Rattle.terminal_source.proofs.lcas_source.group_bits.GroupBits.new.Goals as goal

pub returns : goal.returns
returns c = sym bits_from-zero
