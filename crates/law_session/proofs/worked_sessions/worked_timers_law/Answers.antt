-- Worked sessions with timers, computed.
use Rattle.std.proofs.Common.{refl}
use Rattle.law_model.specs.members.Damage.{carried}
use Rattle.law_model.specs.Common.{are_whole, keep, none_kept, admit, turned, take_out, exchange, after, said_before}
use Rattle.law_model.specs.Common.{cells_before, is_up, last_read}
use Rattle.law_session.proofs.worked_sessions.worked_timers_law.Goals as goal

pub returns-clause-short_holdoff : goal.returns-clause-short_holdoff
unfolding carried are_whole after keep none_kept cells_before said_before exchange take_out turned admit is_up last_read
returns-clause-short_holdoff c = refl

pub returns-clause-long_holdoff : goal.returns-clause-long_holdoff
unfolding carried are_whole after keep none_kept cells_before said_before exchange take_out turned admit is_up last_read
returns-clause-long_holdoff c = refl

pub returns-clause-long_restore : goal.returns-clause-long_restore
unfolding carried are_whole after keep none_kept cells_before said_before exchange take_out turned admit is_up last_read
returns-clause-long_restore c = refl

pub returns-clause-held_over_change : goal.returns-clause-held_over_change
unfolding carried are_whole after keep none_kept cells_before said_before exchange take_out turned admit is_up last_read
returns-clause-held_over_change c = refl

pub returns-clause-sixteen : goal.returns-clause-sixteen
unfolding carried are_whole after keep none_kept cells_before said_before exchange take_out turned admit is_up last_read
returns-clause-sixteen c = refl

pub returns-clause-thirty_two : goal.returns-clause-thirty_two
unfolding carried are_whole after keep none_kept cells_before said_before exchange take_out turned admit is_up last_read
returns-clause-thirty_two c = refl
