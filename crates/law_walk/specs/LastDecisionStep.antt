-- The last decision step of a walk.
use Rattle.std.specs.Prelude.{ℕ, ◌-◌, nat_lt, nat_le, if◌then◌else◌, Option, Some, None}
use Rattle.law_model.specs.Common.{BackCell, Leg, scenario_by, steps_in, Table, after}
use Rattle.law_walk.specs.Walk.{session_of}
use Rattle.law_walk.specs.WalkRings.{back_cell}

-- the number of the last decision step of some ticks, where one was made: that of the packet which it began
abbrev pub last_packet : ℕ → Option ℕ
last_packet ticks = if nat_lt 0 (steps_in ticks) then Some (steps_in ticks - 1) else None

-- the return cell that decision step j took, where it took one
abbrev pub cell_taken : Leg → ℕ → Option BackCell
cell_taken leg j = if nat_le leg.config.lag j then Some (back_cell leg (j - leg.config.lag)) else None

-- the source's table after the decision steps of some ticks
abbrev pub table_in : Leg → ℕ → Table
table_in leg ticks = (after (scenario_by leg) (session_of leg) (steps_in ticks)).table
