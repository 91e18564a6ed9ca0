-- Windows that are opened and closed one after another, in the order of their containers.
use Rattle.std.specs.Prelude.{◌≡◌, ℕ, ◌<◌, ◌≤◌, nat_lt, fold, List, [], ◌∷◌, ◌++◌, if◌then◌else◌}
use Rattle.law_model.specs.Common.{AreWindows, most_windows}
use Rattle.law_model.specs.declared.window_types.Window.{Window}

-- where the last window ends
abbrev pub last_end : List Window → ℕ
last_end windows = fold (λ end window. window.end) 0 windows

-- the window of a failure without slip; a failure without a container has none
abbrev pub failure : ℕ → ℕ → List Window
failure first end = if nat_lt first end then record { first = first; end = end; slip = 0 } ∷ [] else []

-- one window more, of which the end isn't known yet: it lasts as long as a line of so many containers
abbrev pub opened_at : List Window → ℕ → ℕ → List Window
opened_at windows first total = windows ++ record { first = first; end = total; slip = 0 } ∷ []

-- the last window ends at a container, and isn't there where it would have none
unfoldable pub closed_at : List Window → ℕ → List Window
closed_at [] end = []
closed_at (window ∷ []) end = failure window.first end
closed_at (window ∷ (next ∷ windows)) end = window ∷ closed_at (next ∷ windows) end

-- the last window has begun at a container or before, lasts beyond it, and lets none vanish
pub record CanClose (windows : List Window) (n : ℕ) : Type 0 where
  pub before : List Window
  pub window : Window
  pub are : windows ≡ before ++ window ∷ []
  pub begun : window.first ≤ n
  pub lasts : n < window.end
  pub slip : window.slip ≡ 0

-- what is true of the windows that a line keeps: they stand in order, apart, and there is room for 256 of them
pub record AreKept (windows : List Window) (capacity : ℕ) : Type 0 where
  pub apart : AreWindows 0 windows
  pub room : most_windows ≤ capacity
