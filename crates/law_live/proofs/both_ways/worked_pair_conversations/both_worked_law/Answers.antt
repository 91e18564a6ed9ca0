-- Worked conversations with both ways, computed.
use Rattle.std.proofs.Common.{refl}
use Rattle.std.specs.Fmt.{digits}
use Rattle.hex.specs.Hex.{encode_with}
use Rattle.law_model.specs.members.Damage.{carried}
use Rattle.law_model.specs.Common.{are_whole, after, keep, none_kept, cells_before}
use Rattle.law_model.specs.Common.{delineate_within, hunt_within, number_behind, path, place_of, reaching, read_on}
use Rattle.law_model.specs.Common.{rows_of, segments_on, stream_before}
use Rattle.law_model.specs.Common.{held, full, pop, pop_lines, frame_dues, command_dues}
use Rattle.law_model.specs.Common.{sum_delays}
use Rattle.law_walk.specs.Common.{landed_from}
use Rattle.law_pair.specs.Common.{runs_of, pair_run, carries_on, left_after, first_due}
use Rattle.law_live.specs.Common.{after_turns, both_from, live_from, pair_answers_from, turns_answers, turns_until}
use Rattle.law_live.proofs.both_ways.worked_pair_conversations.both_worked_law.Goals as goal

pub returns-clause-windows : goal.returns-clause-windows
unfolding live_from
returns-clause-windows c = refl

pub returns-clause-none : goal.returns-clause-none
unfolding live_from
returns-clause-none c = refl

pub returns-clause-lost : goal.returns-clause-lost
unfolding live_from carried are_whole runs_of
returns-clause-lost c = refl

pub returns-clause-kept : goal.returns-clause-kept
unfolding live_from carried are_whole runs_of
returns-clause-kept c = refl

pub returns-clause-found : goal.returns-clause-found
unfolding live_from carried are_whole runs_of
returns-clause-found c = refl

pub returns-clause-tick : goal.returns-clause-tick
unfolding live_from
returns-clause-tick c = refl

pub returns-clause-dues : goal.returns-clause-dues
unfolding live_from
returns-clause-dues c = refl

pub returns-clause-turns : goal.returns-clause-turns
unfolding turns_until pair_run carries_on pop_lines pop held full frame_dues command_dues sum_delays left_after first_due
returns-clause-turns c = refl

pub returns-clause-rows : goal.returns-clause-rows
unfolding turns_until after_turns both_from pair_run carries_on pop_lines pop held full frame_dues command_dues sum_delays left_after first_due
returns-clause-rows c = refl

pub returns-clause-two : goal.returns-clause-two
unfolding live_from carried are_whole runs_of
returns-clause-two c = refl

pub returns-clause-refused : goal.returns-clause-refused
unfolding live_from pair_answers_from after keep none_kept cells_before stream_before landed_from held full
    frame_dues command_dues left_after first_due pair_run carries_on turns_answers turns_until after_turns sum_delays
returns-clause-refused c = refl

pub returns-clause-order : goal.returns-clause-order
unfolding live_from pair_answers_from stream_before held full frame_dues command_dues left_after first_due pair_run
    carries_on turns_answers turns_until after_turns sum_delays pop pop_lines runs_of place_of reaching rows_of
    segments_on delineate_within hunt_within path read_on number_behind carried
returns-clause-order c = refl

pub returns-clause-refused_text : goal.returns-clause-refused_text
unfolding digits
returns-clause-refused_text c = refl

pub returns-clause-texts : goal.returns-clause-texts
unfolding digits encode_with
returns-clause-texts c = refl
