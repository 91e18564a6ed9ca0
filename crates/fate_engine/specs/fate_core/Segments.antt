-- What is kept of the segments of rows.
use Rattle.std.specs.Prelude.{◌≡◌, ℕ, ◌+◌, ◌≤◌, ◌<◌, ◌^◌, ◌&&◌, nat_le, nat_lt, if◌then◌else◌, Bool, List, [], ◌∷◌}
use Rattle.std.specs.Prelude.{◌++◌, length, filter, drop, Option, None}
use Rattle.std.specs.Option.{option_map}
use Rattle.law_model.specs.Common.{StreamRow, segments_of, octets_of_rows, confirmed_in}
use Rattle.fate_engine.specs.declared.fate_law.RowSegment.{RowSegment}
use Rattle.fate_engine.specs.fate_law.Fates.{spoiled_after}
use Rattle.fate_engine.specs.fate_law.Spans.{no_spans, spans_on, row_segment, row_segments_with, row_segments, mark_of_row, has_row}
use Rattle.fate_engine.specs.declared.fate_core.row_segments.Around.{Around}

-- how many rows there are, and how many come before the first that isn't whole; the later segments that have ended and
-- have a row, and the
-- segment that goes on; the place at which it begins
pub record SegmentList : Type 0 where
  pub rows : ℕ
  pub first : ℕ
  pub ended : List RowSegment
  pub last : RowSegment
  pub base : ℕ

-- what is told after rows: the place at which they end, and the place that was confirmed first in the segment that goes
-- on, from its first
-- octet
pub record Tells (rows : List StreamRow) (end : ℕ) (confirmed : Option ℕ) : Type 0 where
  pub ends : end ≡ length (octets_of_rows rows)
  pub confirms : option_map (λ place. (segments_of rows).last.base + place) confirmed ≡ confirmed_in
      (segments_of rows).last

-- ---- the segments of rows
-- those that have ended, and the one that goes on with the next row
abbrev pub ended_segments : List StreamRow → List RowSegment
ended_segments rows = row_segments_with (spans_on no_spans rows).ended (segments_of rows).ended

abbrev pub last_segment : List StreamRow → RowSegment
last_segment rows = row_segment (spans_on no_spans rows).last (segments_of rows).last

-- what is kept is that of rows
pub record SegmentsStand (kept : SegmentList) (rows : List StreamRow) : Type 0 where
  pub count : kept.rows ≡ length rows
  pub first : kept.first ≡ spoiled_after rows 0
  pub ended : kept.ended ≡ filter has_row (drop 1 (ended_segments rows))
  pub last : kept.last ≡ last_segment rows
  pub base : kept.base ≡ (segments_of rows).last.base
  pub broken : nat_lt kept.first kept.last.first ≡ nat_lt 0 (length (ended_segments rows))

-- the segment that goes on isn't the first, and has a row
abbrev pub is_told : SegmentList → Bool
is_told kept = nat_lt kept.first kept.last.first && nat_lt kept.last.first kept.last.end

-- with one more row that is whole, after which this place is confirmed first
abbrev pub gone_on : SegmentList → Option ℕ → SegmentList
gone_on kept confirmed = record {
  rows = kept.rows + 1;
  first = if nat_le kept.last.first kept.first then kept.first + 1 else kept.first;
  ended = kept.ended;
  last = record {
    first = kept.last.first;
    end = kept.rows + 1;
    mark =
        option_map (λ place. kept.base + place) confirmed;
  };
  base = kept.base;
}

-- with one more row that isn't, which ends at a place
abbrev pub broken_off : SegmentList → ℕ → SegmentList
broken_off kept end = record {
  rows = kept.rows + 1;
  first = kept.first;
  ended = if is_told kept then kept.ended ++ kept.last ∷ [] else kept.ended;
  last = record { first = kept.rows + 1; end = kept.rows + 1; mark = None };
  base = end;
}

-- segments stand in order from a row on, each has a row, and the next one begins behind the row that ends it
unfoldable pub AreInOrder : ℕ → List RowSegment → ℕ → Type 0
AreInOrder from [] end = from ≤ end
AreInOrder from (segment ∷ segments) end = (from ≤ segment.first) × (segment.first < segment.end) ×
    AreInOrder segment.end segments end

-- what is true of the fields
pub record AreSegments (kept : SegmentList) : Type 0 where
  pub order : AreInOrder 0 kept.ended kept.last.first
  pub last : kept.last.first ≤ kept.last.end
  pub rows : kept.last.end ≡ kept.rows
  pub within : kept.first ≤ kept.rows
  pub goes : kept.last.first ≤ kept.first → kept.first ≡ kept.rows
  pub base : kept.base < 2 ^ 63

-- ---- where a row lies
pub record IsAround (rows : List StreamRow) (row : ℕ) (around : Around) : Type 0 where
  pub spoiled : around.spoiled ≡ spoiled_after rows row
  pub first : around.first ≡ nat_lt row (spoiled_after rows 0)
  pub mark : row < spoiled_after rows row → spoiled_after rows 0 ≤ row →
      around.mark ≡ mark_of_row (row_segments rows) row
