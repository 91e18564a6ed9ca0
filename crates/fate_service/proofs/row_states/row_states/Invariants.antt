-- The rows so far.
use Rattle.std.proofs.Common.{◌≡◌, map}
use Rattle.std.specs.List.{range_with_len}
use Rattle.law_model.specs.Common.{Leg, Counts}
use Rattle.law_walk.specs.Common.{session_rows}
use Rattle.fate_walks.specs.walk_fates.MadeWalk.{SeesWalk}
use Rattle.fate_service.specs.RowStates.{state_of}
use Rattle.fate_service.proofs.row_states.row_states.Given as goal

abbrev pub invariant-loop-row : goal.invariant-loop-row
invariant-loop-row l = (leg : Leg) (s : Counts) → SeesWalk leg s l.seen →
    l.states.items ≡ map (state_of (session_rows leg s.rows)) (range_with_len 0 l.row)
