-- Worked streams, computed.
use Rattle.std.proofs.Common.{refl}
use Rattle.law_model.specs.Common.{hec_of, bits, number_behind, octets_of, xors, add_front, divide, core_header, pli_of}
use Rattle.law_model.specs.Common.{head, header_with, hunt_within, scramble_on, cut, segments_on, extents}
use Rattle.law_loss.specs.WorkedLosses.{worked_stream, worked_rows}
use Rattle.fate_engine.specs.Common.{row_from, spoiled_from, fate_among, places, spans_on, row_segments_with}
use Rattle.fate_engine.specs.Common.{spoiled_runs, ruled}
use Rattle.fate_engine.proofs.fate_law.worked_law.Goals as goal

pub returns : goal.returns
unfolding worked_rows worked_stream cut core_header octets_of xors bits number_behind divide add_front scramble_on
    pli_of head hec_of header_with hunt_within segments_on extents row_from spoiled_from fate_among spans_on
    row_segments_with places spoiled_runs ruled
returns c = record { fates = refl; segments = refl; starts = refl; runs = refl; ruler = refl }
