-- Lines for which the law holds, and lines just outside it.
use Rattle.std.specs.Prelude.{◌≡◌, ℕ, zero, suc, ◌+◌, ◌*◌, ◌/◌, ◌%◌, ◌==◌, List, [], ◌∷◌, Some, if◌then◌else◌}
use Rattle.law_model.specs.Common.{Container, slip_of, path, locked, reading_of, verdict, IsLine}
use Rattle.law_model.specs.declared.window_types.Window.{Window}
use Rattle.law_model.specs.members.Damage.{carried}
use Rattle.law_model.specs.members.CellVerdicts.{begun}

-- an empty container whose H4 says its place
unfoldable pub container : ℕ → Container
container n = record { h4 = (if n % 16 == 1 then 16 * (n / 16 % 16) else 16 * (n / 256 % 16)) + n % 16; payload = [] }

-- a count of them, from number n on
unfoldable pub containers : ℕ → ℕ → List Container
containers n zero = []
containers n (suc count) = container n ∷ containers (suc n) count

unfoldable pub window : ℕ → ℕ → ℕ → Window
window first end slip = record { first = first; end = end; slip = slip }

-- two near windows by which 4095 containers vanish
unfoldable pub two_windows : List Window
two_windows = window 100 2145 2041 ∷ window 2155 4213 2054 ∷ []

-- that is a line whose numbers are never in doubt, whatever its length
abbrev pub IsMet : Type 0
IsMet = (count : ℕ) → IsLine two_windows (containers 0 count)

-- three near windows, by each of which fewer than 2048 vanish: together 4189, and container 4338 takes number 242
unfoldable pub three_windows : List Window
three_windows = window 100 1505 1401 ∷ window 1515 2913 1394 ∷ window 2923 4321 1394 ∷ []

abbrev pub AreSummed : Type 0
AreSummed = (slip_of three_windows ≡ 4189)
    × (verdict (path (carried three_windows) 0 (containers 0 4340)) 242 ≡ Some (Some (container 4338)))

-- sixteen whole containers between two windows may leave the line unlocked, and seventeen lock it
abbrev pub AreSeventeen : Type 0
AreSeventeen = ((reading_of (path (carried (window 3 17 5 ∷ window 33 40 5 ∷ [])) 0 (containers 0 33))).lock ≡ begun 0)
    × ((reading_of (path (carried (window 3 17 5 ∷ window 34 41 5 ∷ [])) 0 (containers 0 34))).lock ≡ locked 1)
