-- Worked legs, computed.
use Rattle.std.proofs.Common.{refl}
use Rattle.std.specs.Fmt.{digits}
use Rattle.law_model.specs.members.Damage.{carried}
use Rattle.law_model.specs.Common.{are_whole, keep, none_kept, admit, turned, take_out, exchange, after, said_before}
use Rattle.law_model.specs.Common.{cells_before, is_up, last_read, hec_of, bits, number_behind, octets_of, xors}
use Rattle.law_model.specs.Common.{add_front, divide}
use Rattle.law_model.specs.Common.{core_header, pli_of, head, scramble_on, type_fault, cut, outcomes_after_with}
use Rattle.law_model.specs.Common.{reaching, place_of, stream_before, header_with, hunt_within, follow_within}
use Rattle.law_model.specs.Common.{delineate_within, segments_on, rows_of}
use Rattle.law_walk.specs.Common.{landed_from, numbered}
use Rattle.law_walk.proofs.legs_that_meet.worked_law.Goals as goal

pub returns-clause-first_refusals : goal.returns-clause-first_refusals
unfolding landed_from carried are_whole after is_up last_read keep none_kept cells_before said_before exchange take_out
    turned admit stream_before reaching place_of rows_of segments_on delineate_within hunt_within
returns-clause-first_refusals c = refl

pub returns-clause-first_totals : goal.returns-clause-first_totals
unfolding landed_from carried are_whole after is_up last_read keep none_kept cells_before said_before exchange take_out
    turned admit stream_before reaching place_of rows_of segments_on delineate_within hunt_within
returns-clause-first_totals c = refl

pub returns-clause-refusals : goal.returns-clause-refusals
unfolding landed_from carried are_whole after is_up last_read keep none_kept cells_before said_before exchange take_out
    turned admit stream_before reaching place_of rows_of segments_on delineate_within hunt_within
returns-clause-refusals c = refl

pub returns-clause-totals : goal.returns-clause-totals
unfolding landed_from carried are_whole after is_up last_read keep none_kept cells_before said_before exchange take_out
    turned admit stream_before reaching place_of rows_of segments_on delineate_within hunt_within
returns-clause-totals c = refl

pub returns-clause-accepted : goal.returns-clause-accepted
unfolding landed_from carried are_whole after is_up last_read keep none_kept cells_before said_before exchange take_out
    turned admit stream_before reaching place_of rows_of segments_on delineate_within hunt_within numbered
returns-clause-accepted c = refl

pub returns-clause-spoiled : goal.returns-clause-spoiled
unfolding carried are_whole after is_up last_read keep none_kept cells_before said_before exchange take_out turned admit
returns-clause-spoiled c = refl

pub returns-clause-inferred : goal.returns-clause-inferred
unfolding carried are_whole after is_up last_read keep none_kept cells_before said_before exchange take_out turned admit
returns-clause-inferred c = refl

pub returns-clause-stopped : goal.returns-clause-stopped
unfolding carried are_whole after is_up last_read keep none_kept cells_before said_before exchange take_out turned admit
returns-clause-stopped c = refl

pub returns-clause-report : goal.returns-clause-report
unfolding digits landed_from carried are_whole after is_up last_read keep none_kept cells_before said_before exchange
    take_out turned admit stream_before reaching place_of rows_of segments_on delineate_within hunt_within
returns-clause-report c = refl

pub returns-clause-delivered : goal.returns-clause-delivered
unfolding carried are_whole after is_up last_read keep none_kept cells_before said_before exchange take_out turned
    admit stream_before reaching place_of rows_of segments_on delineate_within hunt_within cut core_header
    octets_of xors bits number_behind divide add_front scramble_on pli_of head hec_of header_with type_fault
    follow_within outcomes_after_with
returns-clause-delivered c = refl
