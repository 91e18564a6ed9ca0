-- Failures of a line: which containers a list of windows damages, and how.
use Rattle.std.specs.Prelude.{ℕ, zero, suc, ◌+◌, ◌-◌, ◌*◌, ◌/◌, ◌&&◌, ◌≤◌, ◌<◌, nat_le, nat_lt, max, Bool, true, false}
use Rattle.std.specs.Prelude.{List, [], ◌∷◌, if◌then◌else◌}
use Rattle.std.specs.List.{list_any}
use Rattle.law_model.specs.declared.window_types.Window.{Window}
use Rattle.law_model.specs.declared.window_types.Carried.{Carried}
use Rattle.law_model.specs.declared.window_types.Carried.TheVariants.{Whole, Fails, Vanishes}

-- container t is one of those that some window names
abbrev pub is_damaged : List Window → ℕ → Bool
is_damaged windows t = list_any (λ window. nat_le window.first t && nat_lt t window.end) windows

-- what comes of a container of a window: the last ones vanish
abbrev pub carried_in : Window → ℕ → Carried
carried_in window n = if nat_lt (n + window.slip) window.end then Fails else Vanishes

-- what comes of container n
unfoldable pub carried : List Window → ℕ → Carried
carried [] n = Whole
carried (window ∷ windows) n =
    if nat_le window.first n && nat_lt n window.end then carried_in window n else carried windows n

abbrev pub is_whole : Carried → Bool
is_whole Whole = true
is_whole Fails = false
is_whole Vanishes = false

-- a number of containers from a first one on are whole
unfoldable pub are_whole : (ℕ → Carried) → ℕ → ℕ → Bool
are_whole carries from zero = true
are_whole carries from (suc count) = are_whole carries from count && is_whole (carries (from + count))

-- the first frame of the multiframe whose first two frames, at least, come before frame t
abbrev pub lock_of : ℕ → ℕ
lock_of t = 16 * ((t - 2) / 16)

-- container t is whole, and so are those before it from the first two of a multiframe on
abbrev pub is_good : (ℕ → Carried) → ℕ → Bool
is_good carries t = nat_le 2 t && are_whole carries (lock_of t) (t + 1 - lock_of t)

-- packet k of a line can be read
abbrev pub is_readable : (ℕ → Carried) → ℕ → Bool
is_readable carries k = are_whole carries (16 * k) 24

-- the windows stand in order, apart, and each gives a sign first
unfoldable pub AreWindows : ℕ → List Window → Type 0
AreWindows from [] = Unit {0}
AreWindows from (window ∷ windows) = (from ≤ window.first) × (window.slip + window.first < window.end) ×
    AreWindows window.end windows

-- the greatest sum of slips over a run of windows each near the one before: fewer than 17 containers lie between them.
-- So far the
-- run has this sum, and the last window this end
unfoldable pub slip_after : ℕ → ℕ → List Window → ℕ
slip_after run end [] = run
slip_after run end (window ∷ windows) =
    max run (slip_after (if nat_lt window.first (end + 17) then run + window.slip else window.slip) window.end windows)

abbrev pub slip_of : List Window → ℕ
slip_of windows = slip_after 0 0 windows
