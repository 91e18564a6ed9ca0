-- The first fifteen bits, and those after them.
use Rattle.terminal_source.proofs.GroupBitAndReturnStatusLaws.{bits-early, bits-later}
use Rattle.terminal_source.proofs.lcas_source.group_bit_law.Goals as goal

pub returns : goal.returns
returns c = record { first = bits-early; later = bits-later }
