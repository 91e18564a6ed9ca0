-- A worked stream by more and more of its rows, computed.
use Rattle.std.proofs.Common.{refl}
use Rattle.law_model.specs.Common.{hec_of, bits, number_behind, octets_of, xors, add_front, divide, core_header, pli_of}
use Rattle.law_model.specs.Common.{head, header_with, hunt_within, scramble_on, cut, segments_on, extents}
use Rattle.law_loss.specs.WorkedLosses.{worked_stream, worked_rows}
use Rattle.fate_engine.specs.Common.{row_from, spoiled_from, fate_among}
use Rattle.law_service.proofs.more_rows_keep_fates.worked_kept_law.Goals as goal

pub returns : goal.returns
unfolding worked_rows worked_stream cut core_header octets_of xors bits number_behind divide add_front scramble_on
    pli_of head hec_of header_with hunt_within segments_on extents row_from spoiled_from fate_among
returns c = record { first = refl; next = refl; last = refl }
