-- Worked pairs, computed.
use Rattle.std.proofs.Common.{refl}
use Rattle.law_model.specs.members.Damage.{carried}
use Rattle.law_model.specs.Common.{are_whole, keep, none_kept, admit, turned, take_out, exchange, after, said_before}
use Rattle.law_model.specs.Common.{cells_before, is_up, last_read, hec_of, bits, number_behind, octets_of, xors}
use Rattle.law_model.specs.Common.{add_front, divide, core_header, pli_of, head, scramble_on, type_fault, cut}
use Rattle.law_model.specs.Common.{outcomes_after_with, reaching, place_of, stream_before, header_with, hunt_within}
use Rattle.law_model.specs.Common.{follow_within, delineate_within, segments_on, rows_of}
use Rattle.law_pair.specs.Common.{runs_of}
use Rattle.law_pair.proofs.WorkedPairLaws.{worked-pair, failing-pair}
use Rattle.law_pair.proofs.worked_pairs.worked_law.Goals as goal

pub returns : goal.returns
unfolding carried are_whole after keep none_kept cells_before said_before is_up last_read exchange take_out turned
    admit stream_before reaching place_of rows_of segments_on delineate_within hunt_within cut core_header octets_of
    xors bits number_behind divide add_front scramble_on pli_of head hec_of header_with type_fault follow_within
    outcomes_after_with runs_of
returns c = record {
  pair = worked-pair;
  failing = failing-pair;
  none_lost = refl;
  lost = refl;
  tells = refl;
  delivered = refl;
}
