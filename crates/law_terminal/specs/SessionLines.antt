-- What is asked of the lines of a session, and what has come of them.
use Rattle.std.specs.Prelude.{◌≡◌, ℕ, ◌<◌, ◌≤◌, min, List, ◌++◌, length, slice_get, Option, Some, All}
use Rattle.law_model.specs.Common.{Cell, AreWindows, slip_of, cells, Scenario, carried_by, Told, containers_of}
use Rattle.law_model.specs.Common.{most_lines}

-- at most 128 lines, the windows of each in order and apart, with a slip below the numbers that are sent
pub record HasLines (scenario : Scenario) : Type 0 where
  pub few : length scenario.windows ≤ most_lines
  pub apart : All (AreWindows 0) scenario.windows
  pub slip : All (λ own. slip_of own < 4096) scenario.windows

-- the cells that a line gives in some carries after a delay, of the containers of these frames, where the source was
-- told these
-- return cells
abbrev pub given : Scenario → List (Option Told) → ℕ → ℕ → ℕ → ℕ → List Cell
given scenario returns line frames delay carries =
    cells (carried_by scenario line) delay scenario.ticks (containers_of scenario returns line frames) carries

-- cells that have come of a line: the first ones of those that it gives. Each of its carries but the last ones took a
-- container
pub record ComesOfLine (scenario : Scenario) (returns : List (Option Told)) (line frames : ℕ)
    (own : List Cell) : Type 0 where
  pub delay : ℕ
  pub carries : ℕ
  pub later : List Cell
  pub taken : min carries scenario.ticks ≤ frames
  pub first : given scenario returns line frames delay carries ≡ own ++ later

-- cells have come of each line of a session, in which this many frames were made
pub record ComeOfLines (scenario : Scenario) (returns : List (Option Told)) (frames : ℕ)
    (cells : List (List Cell)) : Type 0 where
  pub made : frames ≤ scenario.ticks
  pub lines : length cells ≡ length scenario.windows
  pub each : (line : ℕ) (own : List Cell) → slice_get cells line ≡ Some own →
      ComesOfLine scenario returns line frames own
