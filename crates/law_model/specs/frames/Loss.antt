-- Which frames are lost with rows that aren't whole: by four cases, over the places at which the pieces of the stream
-- begin and end.
use Rattle.std.specs.Prelude.{◌≡◌, ℕ, ◌+◌, ◌≤◌, nat_le, nat_lt, ◌&&◌, not, Bool, true, false, List, [], ◌∷◌, ◌++◌}
use Rattle.std.specs.Prelude.{length, map, filter, All, Option, Some, None, IfSome, ◌<◌, ◌⊎◌, Contains, option_map}
use Rattle.std.specs.List.{list_any}
use Rattle.law_model.specs.frames.Piece.{Piece, idle, client, size_of, stream_of}
use Rattle.law_model.specs.frames.Hunt.{hunt}
use Rattle.law_model.specs.frames.Segment.{StreamRow, Segment, segments, octets_of_rows}

-- a client frame, and the places of the stream at which its piece begins and ends
pub record Extent : Type 0 where
  pub from : ℕ
  pub to : ℕ
  pub frame : List ℕ

-- the client frames among pieces of which the first begins at a place
unfoldable pub extents : ℕ → List Piece → List Extent
extents place [] = []
extents place (idle ∷ pieces) = extents (place + size_of idle) pieces
extents place (client frame ∷ pieces) =
    record { from = place; to = place + size_of (client frame); frame = frame }
    ∷ extents (place + size_of (client frame)) pieces

-- a frame is carried by rows that end at a place
abbrev pub is_carried : ℕ → Extent → Bool
is_carried place extent = nat_le extent.to place

-- it lies in a segment
abbrev pub lies_in : Segment → Extent → Bool
lies_in segment extent = nat_le segment.base extent.from && nat_le extent.to (segment.base + length segment.octets)

-- the place of the stream that is confirmed first in a segment that isn't the first
abbrev pub confirmed_in : Segment → Option ℕ
confirmed_in segment = option_map (λ found. segment.base + found.place) (hunt true 0 segment.octets)

-- a frame of such a segment is missed where nothing is confirmed, where it begins before the confirmed place, and where
-- no client
-- frame begins between that place and its own
abbrev pub missed_after : Option ℕ → List Extent → Extent → Bool
missed_after None all extent = true
missed_after (Some place) all extent =
    not (nat_le place extent.from && list_any (λ other. nat_le place other.from && nat_lt other.from extent.from) all)

-- in the first segment nothing is missed
abbrev pub is_missed : Bool → Segment → List Extent → Extent → Bool
is_missed true segment all extent = false
is_missed false segment all extent = missed_after (confirmed_in segment) all extent

-- a segment gives a frame
abbrev pub is_given : List Extent → Extent → Segment → Bool
is_given all extent segment = lies_in segment extent && not (is_missed segment.first segment all extent)

-- a frame is lost where no segment gives it
abbrev pub is_frame_lost : List Segment → List Extent → Extent → Bool
is_frame_lost segments all extent = not (list_any (is_given all extent) segments)

-- the frames that are carried by rows and aren't lost
abbrev pub frames_kept : List Piece → List StreamRow → List (List ℕ)
frames_kept pieces rows =
    map (λ (e : Extent). e.frame)
    (filter (λ e. is_carried (length (octets_of_rows rows)) e && not
    (is_frame_lost (segments rows) (extents 0 pieces) e))
    (extents 0 pieces))

-- ---- the premise on what is confirmed after a break
-- a place of the stream at which a piece begins, or the end
pub record IsPlaceOfPiece (pieces : List Piece) (place : ℕ) : Type 0 where
  pub front : List Piece
  pub more : List Piece
  pub parts : pieces ≡ front ++ more
  pub ends : length (stream_of front) ≡ place

-- what is confirmed first in a later segment is the place of a piece
abbrev pub StartsTrue : List Piece → Segment → Type 0
StartsTrue pieces segment = segment.first ≡ false → IfSome (confirmed_in segment) (IsPlaceOfPiece pieces)

abbrev pub TrueStarts : List Piece → List StreamRow → Type 0
TrueStarts pieces rows = All (StartsTrue pieces) (segments rows)

-- ---- the ways in which a frame is lost
-- it lies in a later segment
pub record LiesLater (segments : List Segment) (extent : Extent) (segment : Segment) : Type 0 where
  pub among : Contains segments segment
  pub lies : lies_in segment extent ≡ true
  pub later : segment.first ≡ false

-- and something is confirmed there
pub record LiesConfirmed (segments : List Segment) (extent : Extent) (place : ℕ) : Type 0 where
  pub segment : Segment
  pub lies : LiesLater segments extent segment
  pub confirmed : confirmed_in segment ≡ Some place

pub data Lost (segments : List Segment) (all : List Extent) (extent : Extent) : Type 0 where
  -- it doesn't lie within one segment
  cut_off : All (λ segment. lies_in segment extent ≡ false) segments → Lost segments all extent
  -- nothing is confirmed in its segment
  unconfirmed : (segment : Segment) → LiesLater segments extent segment → confirmed_in segment ≡ None →
      Lost segments all extent
  -- it begins before the confirmed place
  too_early : (place : ℕ) → LiesConfirmed segments extent place → extent.from < place → Lost segments all extent
  -- no client frame begins at the confirmed place or later, and before it
  unsettled : (place : ℕ) → LiesConfirmed segments extent place →
      All (λ other. (other.from < place) ⊎ (extent.from ≤ other.from)) all → Lost segments all extent
