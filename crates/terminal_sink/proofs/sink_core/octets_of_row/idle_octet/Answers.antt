-- The four octets are the core header of an idle frame.
use Rattle.std.proofs.Common.{◌%◌, slice_index, sym, ap}
use Rattle.law_model.proofs.CoreHeaderLaws.{core_header-idle}
use Rattle.terminal_sink.proofs.sink_core.octets_of_row.idle_octet.Goals as goal

pub returns : goal.returns
returns c = ap (λ header. slice_index header (c.args.i % 4)) (sym core_header-idle)
