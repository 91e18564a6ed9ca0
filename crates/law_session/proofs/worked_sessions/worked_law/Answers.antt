-- Worked sessions, computed.
use Rattle.std.proofs.Common.{refl}
use Rattle.law_model.specs.members.Damage.{carried}
use Rattle.law_model.specs.Common.{are_whole, keep, none_kept, admit, turned, take_out, exchange, after, said_before}
use Rattle.law_model.specs.Common.{cells_before, is_up, last_read}
use Rattle.law_session.proofs.worked_sessions.worked_law.Goals as goal

pub returns-clause-three_lines : goal.returns-clause-three_lines
unfolding carried are_whole after keep none_kept cells_before said_before exchange take_out turned admit is_up last_read
returns-clause-three_lines c = refl

pub returns-clause-other_line : goal.returns-clause-other_line
unfolding carried are_whole after keep none_kept cells_before said_before exchange take_out turned admit is_up last_read
returns-clause-other_line c = refl

pub returns-clause-failing_line : goal.returns-clause-failing_line
unfolding carried are_whole after keep none_kept cells_before said_before exchange take_out turned admit is_up last_read
returns-clause-failing_line c = refl

pub returns-clause-silent_line : goal.returns-clause-silent_line
unfolding carried are_whole after keep none_kept cells_before said_before exchange take_out turned admit is_up last_read
returns-clause-silent_line c = refl
