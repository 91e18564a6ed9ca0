-- What is kept of the numbers of a line.
use Rattle.std.specs.Prelude.{◌≡◌, ℕ, ◌%◌, ◌≤◌, ◌==◌, ◌&&◌, not, Bool, true, false, List, [], ◌∷◌, ◌++◌, length}
use Rattle.std.specs.Prelude.{replicate, Option, Some, None}
use Rattle.law_model.specs.Common.{Container, Cell, over, reading_of, signs_of, HasNoEnd}
use Rattle.member_path.specs.declared.h4_multiframe.MfiLock.{MfiLock}
use Rattle.member_path.specs.h4_multiframe.LockState.{LockStands}

-- the lock of the line; the next number, modulo 4096; what is decided and was not passed: a count of bad numbers, and
-- then one that is
-- whole or not; and whether End came
pub record Numbers : Type 0 where
  pub lock : MfiLock
  pub next : ℕ
  pub bad : ℕ
  pub whole : Bool
  pub ended : Bool

-- every decided number was passed
pub record IsOpen (numbers : Numbers) : Type 0 where
  pub bad : numbers.bad ≡ 0
  pub whole : numbers.whole ≡ false
  pub ended : numbers.ended ≡ false

abbrev pub is_open : Numbers → Bool
is_open numbers = numbers.bad == 0 && not numbers.whole && not numbers.ended

-- the container of a number that is whole lies in a place
abbrev pub last_of : Bool → Container → List (Option Container)
last_of false place = []
last_of true place = Some place ∷ []

-- the verdicts that were not passed
abbrev pub left_of : Numbers → Container → List (Option Container)
left_of numbers place = replicate numbers.bad None ++ last_of numbers.whole place

-- these cells came, the last of which may be End, and t numbers were passed
pub record NumbersStand (numbers : Numbers) (place : Container) (cells : List Cell) (t : ℕ) : Type 0 where
  pub number : numbers.next ≡ t % 4096
  pub passed : List (Option Container)
  pub verdicts : (reading_of cells).verdicts ≡ passed ++ left_of numbers place
  pub runs : numbers.ended ≡ false → HasNoEnd cells × LockStands numbers.lock (signs_of cells) × (length passed ≡ t)
  pub over : numbers.ended ≡ true → ((reading_of cells).lock ≡ over) × (left_of numbers place ≡ []) ×
      (length passed ≤ t)
