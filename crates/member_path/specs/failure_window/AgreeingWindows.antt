-- Lists of windows that damage the same containers up to some place.
use Rattle.std.specs.Prelude.{◌≡◌, ℕ, ◌<◌, List}
use Rattle.law_model.specs.declared.window_types.Window.{Window}
use Rattle.law_model.specs.members.Damage.{carried}

-- the same comes of each container below a number
abbrev pub AgreeBelow : List Window → List Window → ℕ → Type 0
AgreeBelow windows others n = (t : ℕ) → t < n → carried windows t ≡ carried others t
