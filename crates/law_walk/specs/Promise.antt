-- What is promised of a leg, in the words of whoever wrote it.
use Rattle.std.specs.Prelude.{◌≡◌, ◌≢◌, ◌⊎◌, ℕ, suc, ◌+◌, ◌-◌, ◌*◌, ◌/◌, ◌<◌, ◌≤◌, true, List, [], ◌∷◌, length, All}
use Rattle.std.specs.Prelude.{Option, Some, None, flat_map, slice_index_or}
use Rattle.law_model.specs.Common.{Leg, Piece, scenario_by, place_of, stream_before, is_whole_row, Counts, bound, drain}
use Rattle.law_model.specs.Common.{Extent, extents, TrueStarts, is_read, last_read, table_of}
use Rattle.law_model.specs.declared.window_types.Window.{Window}
use Rattle.law_model.specs.declared.script_types.Item.{Item}
use Rattle.law_model.specs.declared.script_types.ItemKind.{ItemKind}
use Rattle.law_model.specs.declared.item_refusals.Refusal.{Refusal}
use Rattle.law_model.specs.declared.script_types.ItemKind.TheVariants.{Frame, Add, Remove}
use Rattle.law_session.specs.LineInUse.{IsInUse}
use Rattle.law_walk.specs.Walk.{session_of, walk_plan}
use Rattle.law_walk.specs.DeliveredFrames.{session_rows}
use Rattle.law_walk.specs.LandedOfLeg.{Numbered, refusal_at}
use Rattle.law_walk.specs.LastDecisionStep.{table_in}

-- ---- the frames that are accepted
-- items with their numbers, from a number on
unfoldable pub numbered : ℕ → List Item → List Numbered
numbered i [] = []
numbered i (item ∷ items) = record { number = i; item = item } ∷ numbered (suc i) items

-- the frame that an item is, where it is one and isn't refused
abbrev pub frame_by : Option Refusal → ItemKind → List (List ℕ)
frame_by None (Frame octets) = octets ∷ []
frame_by None (Add line) = []
frame_by None (Remove line) = []
frame_by (Some why) kind = []

-- those of a leg, in item order
abbrev pub accepted_frames : Leg → List (List ℕ)
accepted_frames leg = flat_map (λ item. frame_by (refusal_at leg item) item.item.kind) (numbered 0 leg.items)

-- ---- what of them is carried
-- the stream of the session in pieces
abbrev pub session_pieces : Leg → List Piece
session_pieces leg =
    (stream_before (scenario_by leg) (session_of leg) leg.config.ticks).pieces

-- its client frames, with the places at which their pieces begin and end
abbrev pub session_extents : Leg → List Extent
session_extents leg = extents 0 (session_pieces leg)

-- the frames that still wait when all ticks are made
abbrev pub session_waiting : Leg → List (List ℕ)
session_waiting leg =
    (stream_before (scenario_by leg) (session_of leg) leg.config.ticks).waiting

-- the place of the stream at which some rows end
abbrev pub place_after : Leg → ℕ → ℕ
place_after leg rows = place_of (scenario_by leg) (session_of leg) rows

-- ---- premises
-- no line has a window of failure
abbrev pub HasNoFailure : Leg → Type 0
HasNoFailure leg = All (λ windows. windows ≡ []) leg.config.windows

-- no window of a line touches the containers from a number on and before another
abbrev pub IsClear : List Window → ℕ → ℕ → Type 0
IsClear windows from end = All (λ (window : Window). (end ≤ window.first) ⊎ (window.end ≤ from)) windows

-- the first container on which row t depends: that of the multiframe in which the packet begins that governs the row
abbrev pub row_from : ℕ → ℕ
row_from t = 16 * ((t - 24) / 16)

-- no change was made since the last packet of a line up to packet k that could be read
abbrev pub IsUnchangedSinceRead : Leg → ℕ → ℕ → Type 0
IsUnchangedSinceRead leg line k = (last : ℕ) → last_read (is_read (scenario_by leg) line) k ≡ Some last →
    (table_of (scenario_by leg) (session_of leg) k).count ≡ (table_of (scenario_by leg) (session_of leg) last).count

-- of several lines the others have no failure in the containers on which row t depends; and no change was made since a
-- packet of this one could be read, up to the packet that governs the row
pub record FailsAlone (leg : Leg) (line t : ℕ) : Type 0 where
  pub inside : line < length leg.config.windows
  pub several : 1 < length leg.config.windows
  pub others : (other : ℕ) → other < length leg.config.windows → other ≢ line →
      IsClear (slice_index_or leg.config.windows other []) (row_from t) (t + 1)
  pub unchanged : IsUnchangedSinceRead leg line ((t - 24) / 16)

-- the first rows are whole
abbrev pub AreWholeBefore : Leg → ℕ → Type 0
AreWholeBefore leg rows = (t : ℕ) → t < rows → is_whole_row (scenario_by leg) (session_of leg) t ≡ true

-- what is confirmed first after each break in some rows is the place of a piece
abbrev pub ConfirmsTrue : Leg → ℕ → Type 0
ConfirmsTrue leg rows = TrueStarts (session_pieces leg) (session_rows leg rows)

-- ---- conclusions
-- the counts after rounds until all rows are taken
abbrev pub drained : Leg → Counts → Counts
drained leg s = drain (bound (walk_plan leg)) (walk_plan leg) s

-- a line carries payload by the table that some packet from one number up to another says: the table of a walk that has
-- made that
-- packet's decision step, in frame 16 k + 8, and not the next one's
pub record InUseBy (leg : Leg) (line first last : ℕ) : Type 0 where
  pub packet : ℕ
  pub from : first ≤ packet
  pub until : packet ≤ last
  pub in_use : IsInUse (table_in leg (16 * packet + 9)) line
