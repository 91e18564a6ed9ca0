-- Runs of windows each near the one before.
use Rattle.std.specs.Prelude.{ℕ, ◌+◌, ◌<◌, List, [], ◌∷◌}
use Rattle.law_model.specs.declared.window_types.Window.{Window}

-- windows each near the one before, where the first is near one that ends at this container: fewer than 17 containers
-- lie between
unfoldable pub AreNear : ℕ → List Window → Type 0
AreNear end [] = Unit {0}
AreNear end (window ∷ windows) = (window.first < end + 17) × AreNear window.end windows

-- each window is near the one before
abbrev pub IsRun : List Window → Type 0
IsRun [] = Unit {0}
IsRun (window ∷ windows) = AreNear window.end windows
