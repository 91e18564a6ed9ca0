-- The windows that are left once those below a container are passed.
use Rattle.std.specs.Prelude.{ℕ, ◌<◌, List, [], ◌∷◌}
use Rattle.law_model.specs.Common.{AreWindows}
use Rattle.law_model.specs.declared.window_types.Window.{Window}

-- the first window ends above container n, and all others begin at its end or later
unfoldable pub IsFirstAbove : ℕ → List Window → Type 0
IsFirstAbove n [] = Unit {0}
IsFirstAbove n (window ∷ windows) = (n < window.end) × AreWindows window.end windows
