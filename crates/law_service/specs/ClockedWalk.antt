-- A walk by the clock: each round makes one tick and takes one row.
use Rattle.std.specs.Prelude.{◌≡◌, ℕ, zero, suc, ◌+◌, ◌*◌, ◌≤◌, List, [], ◌∷◌, map, slice_get, All, Some}
use Rattle.law_model.specs.Common.{slip_of, frame_due, command_due, LinePath, Plan, Counts, run, begin, round, Leg}
use Rattle.law_model.specs.Common.{greatest}
use Rattle.law_model.specs.declared.window_types.Window.{Window}
use Rattle.law_progress.specs.Progress.{IsPlanOf}
use Rattle.law_progress.specs.WorkedPlans.{fine}
use Rattle.law_walk.specs.Common.{plain, failing_items}
use Rattle.law_service.specs.Twins.{with_delays}

-- the counts after some rounds from the start
unfoldable pub after_rounds : ℕ → Plan → Counts
after_rounds zero plan = begin plan
after_rounds (suc count) plan = run plan (after_rounds count plan) (round plan)

-- some line has this delay
pub record HasDelay (delay : ℕ) (paths : List LinePath) : Type 0 where
  pub line : ℕ
  pub path : LinePath
  pub there : slice_get paths line ≡ Some path
  pub is : path.delay ≡ delay

-- no line slips; some line has the greatest delay; and the lag is one tick at least above that of a walk which is just
-- never stuck
pub record KeepsTime (slow fast : ℕ) (plan : Plan) : Type 0 where
  pub is_plan : IsPlanOf slow fast 0 plan
  pub slowest : HasDelay slow plan.paths
  pub lag : 17 + slow ≤ 16 * plan.lag

-- no window of failure of a leg slips its line
abbrev pub HasNoSlip : Leg → Type 0
HasNoSlip leg = All (λ (windows : List Window). slip_of windows ≡ 0) leg.config.windows

-- the lag of a leg is greater than its greatest delay by 17 ticks at least
abbrev pub LagsEnough : Leg → Type 0
LagsEnough leg = 17 + greatest leg.config.delays ≤ 16 * leg.config.lag

-- ---- worked walks
-- 41 ticks of two lines, of which one has a delay of two ticks; two frames and a command
abbrev pub two_lines : Plan
two_lines = record {
  ticks = 41;
  ring = 3;
  lag = 2;
  items = frame_due 5 ∷ command_due 0 ∷ frame_due 7 ∷ [];
  paths = fine 41 0 ∷ fine 41 2 ∷ [];
}

-- a leg of two lines, of which one fails and the other has the greatest delay that a lag of two packets suits
abbrev pub timed_windows : List (List Window)
timed_windows = (record { first = 1000; «end» = 1003; slip = 0 } ∷ []) ∷ [] ∷ []

abbrev pub timed_leg : Leg
timed_leg =
    with_delays (record { config = plain timed_windows 16 2 1100; items = failing_items; tells = [] }) (0 ∷ 15 ∷ []) 16

-- ticks made, frames landed and rows taken
abbrev pub told : Counts → ℕ × ℕ × ℕ
told s = (s.ticks, s.frames, s.rows)

-- after these numbers of rounds
abbrev pub told_after : Plan → List ℕ → List (ℕ × ℕ × ℕ)
told_after plan counts = map (λ count. told (after_rounds count plan)) counts
