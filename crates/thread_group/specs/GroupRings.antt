-- What a tick does to the ends of the rings of a group.
use Rattle.std.specs.Prelude.{◌≡◌, ◌⊎◌, ℕ, ◌<◌, ◌≤◌, List, [], ◌∷◌, ◌++◌, length, slice_get, Some}
use mathlib.Core.List.{IsPrefix}
use Rattle.law_model.specs.Common.{one_more, Container, BackCell}
use Rattle.thread_rings.specs.EndsOfRing.{OutEnd, InEnd, out_passed, out_free, out_misses, in_passed, in_items, in_misses}
use Rattle.thread_rings.specs.EndsOfRing.{SameOut, SameIn}
use Rattle.terminal_group.specs.ReturnInbox.{Inbox, HasCome}

-- ---- lists of ends, by place
-- the same ends of the same rings, at another moment
pub record SameOuts {T : Type 0} (a b : List (OutEnd T)) : Type 0 where
  pub count : length b ≡ length a
  pub each : (m : ℕ) (old new : OutEnd T) → slice_get a m ≡ Some old → slice_get b m ≡ Some new → SameOut old new

pub record SameIns {T : Type 0} (a b : List (InEnd T)) : Type 0 where
  pub count : length b ≡ length a
  pub each : (m : ℕ) (old new : InEnd T) → slice_get a m ≡ Some old → slice_get b m ≡ Some new → SameIn old new

-- nothing has passed through them
abbrev pub AreUnused : {T : Type 0} → List (OutEnd T) → Type 0
AreUnused {T} ends = (m : ℕ) (out : OutEnd T) → slice_get ends m ≡ Some out → out_passed out ≡ []

-- a slot of each is known to be free
abbrev pub AreFree : List (OutEnd Container) → Type 0
AreFree ends = (m : ℕ) (out : OutEnd Container) → slice_get ends m ≡ Some out → 0 < out_free out

-- ---- looks
pub record HasLooked (old new : OutEnd Container) : Type 0 where
  pub same : SameOut old new
  pub passed : out_passed new ≡ out_passed old
  pub free : out_free old ≤ out_free new
  pub misses : (out_misses new ≡ out_misses old) ⊎ (out_misses new ≡ one_more (out_misses old))

pub record HaveLooked (a b : List (OutEnd Container)) : Type 0 where
  pub count : length b ≡ length a
  pub each : (m : ℕ) (old new : OutEnd Container) → slice_get a m ≡ Some old → slice_get b m ≡ Some new →
      HasLooked old new

-- the first line of which no slot was known to be free, and a look at its ring missed
pub record IsFirstFull (a b : List (OutEnd Container)) (line : ℕ) : Type 0 where
  pub before : (m : ℕ) (out : OutEnd Container) → m < line → slice_get b m ≡ Some out → 0 < out_free out
  pub was : OutEnd Container
  pub is : OutEnd Container
  pub old : slice_get a line ≡ Some was
  pub new : slice_get b line ≡ Some is
  pub none : out_free was ≡ 0
  pub missed : out_misses is ≡ one_more (out_misses was)

-- ---- a frame is pushed: its container m goes to line m
pub record IsPushed (container : Container) (old new : OutEnd Container) : Type 0 where
  pub same : SameOut old new
  pub passed : out_passed new ≡ out_passed old ++ container ∷ []
  pub misses : out_misses new ≡ out_misses old

pub record ArePushed (frame : List Container) (a b : List (OutEnd Container)) : Type 0 where
  pub count : length b ≡ length a
  pub each : (m : ℕ) (container : Container) (old new : OutEnd Container) → slice_get frame m ≡ Some container →
      slice_get a m ≡ Some old → slice_get b m ≡ Some new → IsPushed container old new

-- ---- return cells are moved from the return ring into the inbox
-- no return cell is known to be there, and a look at the ring missed
pub record IsDrained (old new : InEnd BackCell) : Type 0 where
  pub none : in_items new ≡ []
  pub missed : in_misses new ≡ one_more (in_misses old)

pub record HasMoved (was is : Inbox) (old new : InEnd BackCell) : Type 0 where
  pub lost : is.lost ≡ was.lost
  pub room : is.room ≡ was.room
  pub within : length was.cells ≤ was.room → length is.cells ≤ is.room
  pub same : SameIn old new
  pub received : IsPrefix (in_passed old) (in_passed new)
  pub come : (used : ℕ) → HasCome was (in_passed old) used → HasCome is (in_passed new) used
