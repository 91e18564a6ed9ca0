-- What may be said next, and which list of sayings is well said over a configuration.
use Rattle.std.specs.Prelude.{◌≡◌, ℕ, ◌+◌, ◌<◌, ◌≤◌, List, [], ◌∷◌, length, All, IsSome, None}
use Rattle.law_model.specs.declared.window_types.Window.{Window}
use Rattle.law_model.specs.declared.script_types.Config.{Config}
use Rattle.law_model.specs.Common.{IsKind, longest_input}
use Rattle.law_live.specs.LiveSayings.{Saying, lands, cuts, mends, passes, LineCourse, Live, opened, course_at, live_after}

-- no failure of a line lasts, and one more can be told
pub record CanCut (passed : ℕ) (course : LineCourse) : Type 0 where
  pub uncut : course.cut ≡ None
  pub over : All (λ (window : Window). window.end ≤ passed) course.windows
  pub few : length course.windows < 256

-- a tick is left, and the saying is of a line that there is
pub record IsOfLine (ticks : ℕ) (live : Live) (m : ℕ) : Type 0 where
  pub left : live.passed < ticks
  pub line : m < length live.courses

-- some ticks pass, and no more than are left
pub record IsPass (ticks : ℕ) (live : Live) (k : ℕ) : Type 0 where
  pub some : 1 ≤ k
  pub left : live.passed + k ≤ ticks

abbrev pub CanSay : ℕ → Live → Saying → Type 0
CanSay ticks live (lands kind) = (live.passed < ticks) × IsKind kind
CanSay ticks live (cuts m) = IsOfLine ticks live m × CanCut live.passed (course_at live m)
CanSay ticks live (mends m) = IsOfLine ticks live m × IsSome (course_at live m).cut
CanSay ticks live (passes k) = IsPass ticks live k

-- one after another
unfoldable pub CanSayAll : ℕ → Live → List Saying → Type 0
CanSayAll ticks live [] = Unit {0}
CanSayAll ticks live (saying ∷ said) = CanSay ticks live saying × CanSayAll ticks (live_after live saying) said

-- over a configuration, and no more than an input has octets
pub record IsWellSaid (config : Config) (said : List Saying) : Type 0 where
  pub each : CanSayAll config.ticks (opened config) said
  pub few : length said ≤ longest_input
