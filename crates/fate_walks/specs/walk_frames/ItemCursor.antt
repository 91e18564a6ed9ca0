-- The client's items that have landed in a walk, one after another, as clauses say it.
use Rattle.std.specs.Prelude.{◌≡◌, ℕ, ◌+◌, ◌-◌, ◌≤◌, List, [], ◌∷◌, length, take, drop, Some, slice_get}
use Rattle.law_model.specs.Common.{Leg, offers_of, Counts, IsSound}
use Rattle.law_model.specs.declared.item_refusals.Refusal.{Refusal}
use Rattle.law_model.specs.declared.script_types.Item.{Item}
use Rattle.law_model.specs.declared.script_types.ItemKind.TheVariants.{Frame}
use Rattle.law_walk.specs.Common.{IsWalked, Numbered, landed_from, refusal_at, refusals_among}
use Rattle.fate_walks.specs.walk_frames.StreamInTicks.{IsLate}
use Rattle.fate_walks.specs.declared.walk_frames.landed_cursor.LandedFrame.{LandedFrame}

-- a place among the items of a leg: the next item, the refusals from there on, and how many frames from there on have
-- landed
pub record Cursor : Type 0 where
  pub item : ℕ
  pub refusals : List (ℕ × Refusal)
  pub left : ℕ

-- how many frames are among the items before a place
abbrev pub frames_before_item : Leg → ℕ → ℕ
frames_before_item leg item = length (offers_of (take item leg.items))

-- the frames from a place on that have landed
abbrev pub frames_left : Leg → Cursor → List Numbered
frames_left leg cursor = landed_from cursor.left 0 cursor.item (drop cursor.item leg.items)

-- where a cursor is, with how many commands from there on have landed
pub record IsAt (leg : Leg) (s : Counts) (cursor : Cursor) : Type 0 where
  pub sound : IsSound leg
  pub walked : IsWalked leg s
  pub commands : ℕ
  pub within : cursor.item ≤ length leg.items
  pub left : cursor.left ≡ s.frames - frames_before_item leg cursor.item
  pub refusals : cursor.refusals
      ≡ refusals_among leg (landed_from cursor.left commands cursor.item (drop cursor.item leg.items))

-- a frame that was found is the next one
pub record IsNext (leg : Leg) (was now : Cursor) (found : LandedFrame) : Type 0 where
  pub item : Item
  pub octets : List ℕ
  pub there : slice_get leg.items found.number ≡ Some item
  pub kind : item.kind ≡ Frame octets
  pub due : found.due ≡ item.due
  pub length_is : found.length ≡ length octets
  pub refusal : found.refusal ≡ refusal_at leg (record { number = found.number; item = item })
  pub before : frames_before_item leg found.number ≡ frames_before_item leg was.item
  pub after : now.item ≡ found.number + 1
  pub rest : frames_left leg was ≡ record { number = found.number; item = item } ∷ frames_left leg now

-- no frame is left that has landed
pub record IsPast (leg : Leg) (s : Counts) (cursor : Cursor) : Type 0 where
  pub none : frames_left leg cursor ≡ []
  pub late : IsLate leg (frames_before_item leg cursor.item) s.ticks

-- one item was passed, which is no frame that has landed
pub record IsSkipped (leg : Leg) (was now : Cursor) : Type 0 where
  pub before : frames_before_item leg now.item ≡ frames_before_item leg was.item
  pub rest : frames_left leg was ≡ frames_left leg now
