-- The rows so far are counted.
use Rattle.std.proofs.Common.{◌≡◌, ◌≤◌, drop}
use Rattle.fate_service.specs.RowStates.{dark_on, dark_among}
use Rattle.fate_service.proofs.row_states.count_dark.Given as goal

abbrev pub invariant-loop-state : goal.invariant-loop-state
invariant-loop-state l =
    (dark_on l.dark (drop l.state-index l.states) ≡ dark_among l.states) × (l.dark ≤ l.state-index)
