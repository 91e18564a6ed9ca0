-- What became of the client frames of a stream that came in rows, of which some aren't whole: frame by frame, with the
-- rows in which its
-- piece begins and ends. Rows are numbered from 0.
use Rattle.std.specs.Prelude.{ℕ, suc, ◌-◌, ◌≤◌, ◌<◌, take, nat_le, nat_lt, ◌&&◌, Bool, true, false, if◌then◌else◌, List}
use Rattle.std.specs.Prelude.{[], ◌∷◌, length, map, filter, drop, Option, Some, None}
use Rattle.std.specs.List.{list_any}
use Rattle.law_model.specs.Common.{Piece, StreamRow, Segment, segments, octets_of_rows, Extent, extents, is_carried}
use Rattle.law_model.specs.Common.{lies_in, confirmed_in}
use Rattle.fate_engine.specs.declared.fate_law.Fate.{Fate}
use Rattle.fate_engine.specs.declared.fate_law.Fate.TheVariants.{Waits, Cut, Unconfirmed, Hunting, Unsettled, Got}

-- ---- rows
-- the place of the stream at which row t begins
abbrev pub place_at : List StreamRow → ℕ → ℕ
place_at rows t = length (octets_of_rows (take t rows))

-- a row has a place of the stream
pub record HasPlace (rows : List StreamRow) (place row : ℕ) : Type 0 where
  pub from : place_at rows row ≤ place
  pub below : place < place_at rows (suc row)

-- of rows that are numbered from t, the one that has a place, counted from the first octet of the first of them
unfoldable pub row_from : ℕ → List StreamRow → ℕ → ℕ
row_from t [] place = t
row_from t (row ∷ rows) place =
    if nat_lt place (length row.octets) then t else row_from (suc t) rows (place - length row.octets)

abbrev pub row_at : List StreamRow → ℕ → ℕ
row_at rows place = row_from 0 rows place

-- the first of rows, numbered from t, that isn't whole
unfoldable pub spoiled_from : ℕ → List StreamRow → ℕ
spoiled_from t [] = t
spoiled_from t (row ∷ rows) = if row.whole then spoiled_from (suc t) rows else t

-- the first one from row r on
abbrev pub spoiled_after : List StreamRow → ℕ → ℕ
spoiled_after rows r = spoiled_from r (drop r rows)

-- ---- fates
-- a client frame begins at a place or later, and before a frame
abbrev pub is_settled_by : ℕ → Extent → Extent → Bool
is_settled_by place frame other = nat_le place other.from && nat_lt other.from frame.from

-- that of a frame which lies in a segment other than the first, by the place that is confirmed first in it; the frame's
-- first row and
-- its last are r and q
abbrev pub fate_after : Option ℕ → List Extent → Extent → ℕ → ℕ → Fate
fate_after None all frame r q = Unconfirmed r q
fate_after (Some place) all frame r q =
    if nat_le place frame.from then (if list_any (is_settled_by place frame) all then Got r q else Unsettled r q)
    else Hunting r q

-- in the first segment every frame is got
abbrev pub fate_in : Bool → Segment → List Extent → Extent → ℕ → ℕ → Fate
fate_in true segment all frame r q = Got r q
fate_in false segment all frame r q = fate_after (confirmed_in segment) all frame r q

-- by the segment in which the frame lies, and another fate where there is none
unfoldable pub fate_among : Fate → List Segment → List Extent → Extent → ℕ → ℕ → Fate
fate_among other [] all frame r q = other
fate_among other (segment ∷ segments) all frame r q =
    if lies_in segment frame then fate_in segment.first segment all frame r q else fate_among other segments all frame r
    q

-- that of a frame of the stream which the rows carry
abbrev pub carried_fate : List Piece → List StreamRow → Extent → Fate
carried_fate pieces rows frame =
    fate_among (Cut (row_at rows frame.from) (row_at rows (frame.to - 1)) (spoiled_after rows (row_at rows frame.from)))
    (segments rows) (extents 0 pieces) frame (row_at rows frame.from) (row_at rows (frame.to - 1))

abbrev pub fate_of : List Piece → List StreamRow → Extent → Fate
fate_of pieces rows frame = if is_carried (length (octets_of_rows rows)) frame then carried_fate pieces rows frame
    else Waits

-- ---- those that are got
abbrev pub is_got : Fate → Bool
is_got Waits = false
is_got (Cut r q t) = false
is_got (Unconfirmed r q) = false
is_got (Hunting r q) = false
is_got (Unsettled r q) = false
is_got (Got r q) = true

-- the frames of the stream whose fate is that, in order
abbrev pub frames_got : List Piece → List StreamRow → List (List ℕ)
frames_got pieces rows = map (λ (e : Extent). e.frame) (filter (λ e. is_got (fate_of pieces rows e)) (extents 0 pieces))
