-- Worked rows, computed.
use Rattle.std.proofs.Common.{refl}
use Rattle.law_model.specs.Common.{none_kept, place_in, active_from, last_read}
use Rattle.law_row.proofs.worked_rows.worked_law.Goals as goal

pub returns-clause-sent : goal.returns-clause-sent
unfolding place_in none_kept
returns-clause-sent c = refl

pub returns-clause-active : goal.returns-clause-active
unfolding place_in none_kept active_from
returns-clause-active c = refl

pub returns-clause-one_lost : goal.returns-clause-one_lost
unfolding place_in none_kept active_from
returns-clause-one_lost c = refl

pub returns-clause-goes_on : goal.returns-clause-goes_on
unfolding last_read active_from
returns-clause-goes_on c = refl

pub returns-clause-stops : goal.returns-clause-stops
unfolding last_read active_from
returns-clause-stops c = refl

pub returns-clause-changed : goal.returns-clause-changed
unfolding last_read active_from
returns-clause-changed c = refl

pub returns-clause-unused : goal.returns-clause-unused
unfolding last_read active_from
returns-clause-unused c = refl

pub returns-clause-two : goal.returns-clause-two
unfolding last_read active_from
returns-clause-two c = refl

pub returns-clause-fewer : goal.returns-clause-fewer
unfolding last_read active_from
returns-clause-fewer c = refl
