-- Which legs agree with what was said so far. What was answered is said of each of them, and they differ in all that may
-- come later.
use Rattle.std.specs.Prelude.{◌≡◌, ℕ, ◌<◌, ◌≤◌, List, [], ◌++◌, length, All, slice_index_or}
use Rattle.law_model.specs.Common.{Leg}
use Rattle.law_model.specs.declared.window_types.Window.{Window}
use Rattle.law_model.specs.declared.script_types.Config.{Config}
use Rattle.law_model.specs.declared.script_types.Item.{Item}
use Rattle.law_model.specs.members.Damage.{carried}
use Rattle.law_live.specs.LiveSayings.{Live, windows_by, course_at}

-- the same comes of each container below a number
abbrev pub IsSameBelow : ℕ → List Window → List Window → Type 0
IsSameBelow n windows others = (t : ℕ) → t < n → carried windows t ≡ carried others t

-- what lands later is due now or later
pub record HasLater (live : Live) (items : List Item) : Type 0 where
  pub later : List Item
  pub are : items ≡ live.items ++ later
  pub late : All (λ (item : Item). live.passed ≤ item.due) later

-- but for windows it is the configuration, and of each line they say the same of the containers that are made
pub record Agrees (config : Config) (live : Live) (leg : Leg) : Type 0 where
  pub network : leg.config ≡ record config { windows = leg.config.windows }
  pub lines : length leg.config.windows ≡ length live.courses
  pub windows : (m : ℕ) → m < length live.courses →
      IsSameBelow live.passed (slice_index_or leg.config.windows m []) (windows_by live.passed (course_at live m))
  pub items : HasLater live leg.items
  pub quiet : leg.tells ≡ []
