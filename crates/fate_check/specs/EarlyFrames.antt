-- The accepted frames that are due before the first taken row in which a line carried payload.
use Rattle.std.specs.Prelude.{ℕ, ◌&&◌, nat_lt, Bool, true, List, filter, Option, Some, None}
use Rattle.law_model.specs.session.Leg.{Leg}
use Rattle.law_model.specs.session.Scenario.{scenario_by}
use Rattle.law_model.specs.session.Counts.{Counts}
use Rattle.law_walk.specs.Walk.{session_of}
use Rattle.law_walk.specs.LandedOfLeg.{Numbered, landed_items, is_accepted_frame}
use Rattle.fate_check.specs.UsedLines.{first_payload}

-- due before a row; if there is no such row, every tick is
abbrev pub is_before : Option ℕ → ℕ → Bool
is_before None due = true
is_before (Some row) due = nat_lt due row

-- an item is a frame that was accepted, and is due before a row
abbrev pub is_early : Leg → Option ℕ → Numbered → Bool
is_early leg row item = is_accepted_frame leg item && is_before row item.item.due

-- ---- by the counts of a walk
-- the first row in which a line carries payload, of those that were taken
abbrev pub payload_row : Leg → Counts → Option ℕ
payload_row leg s = first_payload (scenario_by leg) (session_of leg) s.rows

abbrev pub early_frames : Leg → Counts → List Numbered
early_frames leg s = filter (is_early leg (payload_row leg s)) (landed_items leg s)
