-- Worked texts and outages, computed.
use Rattle.std.proofs.Common.{refl}
use Rattle.std.specs.Fmt.{digits}
use Rattle.law_model.specs.Common.{hec_of, bits, number_behind, octets_of, xors, add_front, divide}
use Rattle.law_model.specs.Common.{core_header, pli_of, head, header_with, hunt_within, extents, cut}
use Rattle.law_model.specs.Common.{scramble_on, segments_on, are_whole, is_up, last_read, rows_of}
use Rattle.law_model.specs.Common.{said_before, cells_before, reaching, place_of, stream_before, after, keep}
use Rattle.law_model.specs.Common.{none_kept, admit, turned, take_out, exchange}
use Rattle.law_model.specs.members.Damage.{carried}
use Rattle.law_loss.specs.WorkedLosses.{worked_stream, worked_rows}
use Rattle.law_walk.specs.Common.{landed_from}
use Rattle.fate_engine.specs.Common.{row_from, spoiled_from, fate_among, ended_on, spans_on}
use Rattle.fate_engine.specs.Common.{row_segments_with, mark_of_row}
use Rattle.fate_service.specs.Delays.{within_on, least_from}
use Rattle.fate_service.specs.FrameColumns.{waits_on}
use Rattle.fate_service.specs.MemberRuns.{runs_on}
use Rattle.fate_service.specs.Outages.{with_dark, outages_on, lost_on}
use Rattle.fate_service.specs.RowStates.{dark_on}
use Rattle.fate_service.specs.ServiceText.{outages_text}
use Rattle.fate_service.specs.Stretches.{came_on, ended_on as counts_on, peak_on, spans_on as stretches_on, told_on}
use Rattle.fate_service.specs.service_law.LinesAsNumbers.{outage_lines}
use Rattle.fate_service.proofs.service_law.worked_law.Goals as goal

pub returns : goal.returns
unfolding digits landed_from carried are_whole after keep none_kept cells_before said_before exchange take_out turned
    admit stream_before reaching place_of rows_of segments_on hunt_within extents row_from spoiled_from fate_among
    ended_on spans_on row_segments_with mark_of_row within_on least_from waits_on runs_on with_dark outages_on dark_on
    outages_text came_on counts_on peak_on stretches_on told_on is_up last_read core_header octets_of xors bits
    number_behind divide add_front scramble_on cut pli_of head hec_of header_with worked_rows worked_stream lost_on
    outage_lines
returns c = record { one = refl; late = refl; outages = refl }
