-- What is decided stays decided: more cells, and more carries, change nothing of it.
use Rattle.std.specs.Prelude.{◌≡◌, ℕ, ◌+◌, ◌<◌, ◌≤◌, List, ◌++◌, length, Option, Some, IsSome}
use Rattle.law_model.specs.Common.{Container, Cell, cells, verdict, uppers}
use Rattle.law_model.specs.declared.window_types.Carried.{Carried}

-- more cells change no verdict
abbrev pub VerdictsStay : Type 0
VerdictsStay = (cells more : List Cell) (t : ℕ) (told : Option Container) →
    verdict cells t ≡ Some told → verdict (cells ++ more) t ≡ Some told

-- nor the upper halves of numbers that are decided
abbrev pub OctetsStay : Type 0
OctetsStay = (cells more : List Cell) (from count : ℕ) →
    ((t : ℕ) → from ≤ t → t < from + count → IsSome (verdict cells t)) →
    uppers (cells ++ more) from count ≡ uppers cells from count

-- the cells of fewer carries are a prefix of those of more
abbrev pub CellsStay : Type 0
CellsStay = (carries : ℕ → Carried) (delay : ℕ) (containers : List Container) (i j : ℕ) → i ≤ j →
    (more : List Cell) × (cells carries delay (length containers) containers j ≡ cells carries delay
    (length containers) containers i ++ more)
