-- The numbers of cells as they are worded: over any list of cells none of which is End, by the cells in step.
use Rattle.std.specs.Prelude.{◌≡◌, ℕ, ◌+◌, ◌*◌, ◌%◌, ◌<◌, ◌≤◌, ◌↔◌, List, ◌∷◌, ◌++◌, length, take, slice_get, Some}
use Rattle.std.specs.Prelude.{None}
use Rattle.law_model.specs.Common.{IsOutOfStep, HasMfi2, Locks, IsAt, Container, Cell, Good, End, reading_of}
use Rattle.law_model.specs.Common.{verdict_or, verdict, signs_of, HasNoEnd}

-- the least number of at least d that equals r modulo 4096
pub record IsLeast (d r n : ℕ) : Type 0 where
  pub least_of : d ≤ n
  pub same : n % 4096 ≡ r % 4096
  pub least : (k : ℕ) → d ≤ k → k % 4096 ≡ r % 4096 → n ≤ k

-- dec y is how many numbers the first y cells decide
pub record IsCount (cells : List Cell) (dec : ℕ → ℕ) : Type 0 where
  pub none : dec 0 ≡ 0
  pub at : (i : ℕ) → IsAt (signs_of cells) i → dec (i + 1) ≡ dec i + 1
  pub locks : (i mfi2 : ℕ) → Locks (signs_of cells) (i + 1) → HasMfi2 (signs_of cells) i mfi2 →
      (n : ℕ) × IsLeast (dec (i + 1)) (16 * mfi2 + 1) n × (dec (i + 1 + 1) ≡ n + 1)
  pub other : (i : ℕ) → i < length cells → IsOutOfStep (signs_of cells) i → dec (i + 1) ≡ dec i + 1

-- number t is whole with this container
abbrev pub IsWholeAt : List Cell → (ℕ → ℕ) → ℕ → Container → Type 0
IsWholeAt cells dec t container =
    (i : ℕ) × IsAt (signs_of cells) i × (dec i ≡ t) × (slice_get cells i ≡ Some (Good container))

-- how many numbers the recursion decides by the first y cells
abbrev pub dec_of : List Cell → ℕ → ℕ
dec_of cells y = length (reading_of (take y cells)).verdicts

-- the recursion meets the wording
abbrev pub IsWorded : Type 0
IsWorded = (cells : List Cell) → HasNoEnd cells → IsCount cells (dec_of cells)

-- no other count does
abbrev pub IsOnlyCount : Type 0
IsOnlyCount = (cells : List Cell) (dec : ℕ → ℕ) → HasNoEnd cells → IsCount cells dec →
    (y : ℕ) → y ≤ length cells → dec y ≡ dec_of cells y

-- the whole numbers of the recursion are those worded
abbrev pub AreWhole : Type 0
AreWhole = (cells : List Cell) (t : ℕ) (container : Container) → HasNoEnd cells →
    (verdict cells t ≡ Some (Some container)) ↔ IsWholeAt cells (dec_of cells) t container

-- a number is decided exactly where it is below the count
abbrev pub AreDecided : Type 0
AreDecided = (cells : List Cell) (t : ℕ) → HasNoEnd cells →
    (verdict cells t ≡ None) ↔ (dec_of cells (length cells) ≤ t)

-- End leaves what the cells before it decide, and decides all else as bad; what comes after it changes nothing
abbrev pub EndDecides : Type 0
EndDecides = (cells more : List Cell) (t : ℕ) → HasNoEnd cells →
    verdict (cells ++ End ∷ more) t ≡ verdict_or (verdict cells t) (Some None)
