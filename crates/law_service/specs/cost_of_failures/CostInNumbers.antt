-- The rows that failures spoil, in numbers, if the lines that fail were in use before.
use Rattle.std.specs.Prelude.{◌≡◌, ◌⊎◌, ◌↔◌, ℕ, ◌+◌, ◌-◌, ◌*◌, ◌/◌, ◌%◌, ◌<◌, ◌≤◌, false, slice_get, Some}
use Rattle.law_model.specs.Common.{Leg, scenario_by, member_of, is_whole_row}
use Rattle.law_model.specs.declared.window_types.Window.{Window}
use Rattle.law_model.specs.declared.lcas_states.Standing.TheVariants.{Norm as normal}
use Rattle.law_session.specs.Feedback.{lines_of}
use Rattle.law_session.specs.LineInUse.{IsAdded}
use Rattle.law_session.specs.TimedMembers.{IsUpWithWord}
use Rattle.law_walk.specs.Common.{session_of, IsClear}
use Rattle.law_service.specs.cost_of_failures.Cost.{windows_of, FailsBy, first_hit, table_at, Spoils}

-- the first packet from one on that says a status of an SQ
abbrev pub next_of : Leg → ℕ → ℕ → ℕ
next_of leg sq from =
    from + (sq / 8 + leg.config.options.statuses - from % leg.config.options.statuses) % leg.config.options.statuses

-- the first packet that a failure can hit once the hold-off has run out, and that says a status of an SQ
abbrev pub first_told : Leg → Window → ℕ → ℕ
first_told leg window sq = next_of leg sq (first_hit window.first + leg.config.options.holdoff)

-- a line is up and has a word in the packets whose statuses are still on the way before the first that can be hit
abbrev pub WasUp : Leg → ℕ → ℕ → Type 0
WasUp leg from line = (k : ℕ) → k < first_hit from → first_hit from ≤ k + leg.config.lag →
    IsUpWithWord (scenario_by leg) (session_of leg) line k

-- before the step that makes the first packet that can be hit a line is in NORM; and it is up and has a word in the
-- packets whose statuses are still on the way
pub record WasUsed (leg : Leg) (from sq line : ℕ) : Type 0 where
  pub stands : slice_get (table_at leg from).order sq ≡ Some (member_of line normal)
  pub up : WasUp leg from line

-- so was each line that has an SQ and fails
abbrev pub WereUsed : Leg → ℕ → ℕ → Type 0
WereUsed leg from horizon = (line sq : ℕ) (window : Window) → FailsBy (windows_of leg line) window from horizon →
    slice_get (lines_of (table_at leg from).order) sq ≡ Some line → WasUsed leg from sq line

-- before that step no line that fails is in ADD; and none of its containers is damaged before the failure, from the
-- packets on whose statuses are still on the way then, and as many more as the restore takes
pub record WereClear (leg : Leg) (from horizon : ℕ) : Type 0 where
  pub adds : (line : ℕ) (window : Window) → FailsBy (windows_of leg line) window from horizon →
      IsAdded (table_at leg from) line → ⊥
  pub clear : (line : ℕ) (window : Window) → FailsBy (windows_of leg line) window from horizon →
      IsClear (windows_of leg line) (16 * (first_hit from - leg.config.lag - leg.config.options.restore)) from

-- a line that has an SQ fails, that spoils row t, and the source hasn't been told of it
pub record IsHit (leg : Leg) (from horizon t : ℕ) : Type 0 where
  pub line : ℕ
  pub sq : ℕ
  pub window : Window
  pub has : slice_get (lines_of (table_at leg from).order) sq ≡ Some line
  pub fails : FailsBy (windows_of leg line) window from horizon
  pub spoils : Spoils window t
  pub untold : t < 16 * (first_told leg window sq + leg.config.lag) + 24

-- a run of rows has row t: from its first number on to below the second one
abbrev pub IsOf : ℕ × ℕ → ℕ → Type 0
IsOf run t = (run.0 ≤ t) × (t < run.1)

-- the rows from one on up to a horizon that aren't whole are those of two runs, of which any may have no row
pub record AreTwoRuns (leg : Leg) (from horizon : ℕ) : Type 0 where
  pub one : ℕ × ℕ
  pub other : ℕ × ℕ
  pub rows : (t : ℕ) → from ≤ t → t < horizon →
      (is_whole_row (scenario_by leg) (session_of leg) t ≡ false) ↔ (IsOf one t ⊎ IsOf other t)
