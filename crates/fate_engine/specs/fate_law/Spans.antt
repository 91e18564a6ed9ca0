-- The rows of the segments of a stream, and their marks.
use Rattle.std.specs.Prelude.{ℕ, suc, nat_lt, Bool, true, false, List, [], ◌∷◌, ◌++◌, filter, drop, if◌then◌else◌}
use Rattle.std.specs.Prelude.{Option, None}
use Rattle.law_model.specs.Common.{StreamRow, Segment, segments, Extent, confirmed_in}
use Rattle.fate_engine.specs.declared.fate_law.Fate.{Fate}
use Rattle.fate_engine.specs.declared.fate_law.Fate.TheVariants.{Cut, Got}
use Rattle.fate_engine.specs.declared.fate_law.RowSegment.{RowSegment}
use Rattle.fate_engine.specs.fate_law.Fates.{spoiled_after, fate_after}

-- the rows from a first one to below another
pub record Span : Type 0 where
  pub first : ℕ
  pub end : ℕ

-- those of the segments that have ended, and of the one that goes on with the next row
pub record Spans : Type 0 where
  pub ended : List Span
  pub last : Span

-- a row that is whole goes on with the last one, and another ends it
abbrev pub span_by : Bool → Spans → Spans
span_by true come = record { ended = come.ended; last = record { first = come.last.first; end = suc come.last.end } }
span_by false come = record {
  ended = come.ended ++ come.last ∷ [];
  last =
      record { first = suc come.last.end; end = suc come.last.end };
}

unfoldable pub spans_on : Spans → List StreamRow → Spans
spans_on come [] = come
spans_on come (row ∷ rows) = spans_on (span_by row.whole come) rows

-- before any row
abbrev pub no_spans : Spans
no_spans = record { ended = []; last = record { first = 0; end = 0 } }

-- one for each segment, in order
abbrev pub spans : List StreamRow → List Span
spans rows = (spans_on no_spans rows).ended ++ (spans_on no_spans rows).last ∷ []

-- the rows of a segment, and its mark
abbrev pub row_segment : Span → Segment → RowSegment
row_segment span segment = record { first = span.first; end = span.end; mark = confirmed_in segment }

-- segment by segment
unfoldable pub row_segments_with : List Span → List Segment → List RowSegment
row_segments_with [] segments = []
row_segments_with (span ∷ spans) [] = []
row_segments_with (span ∷ spans) (segment ∷ segments) = row_segment span segment ∷ row_segments_with spans segments

-- every segment, in order
abbrev pub row_segments : List StreamRow → List RowSegment
row_segments rows = row_segments_with (spans rows) (segments rows)

-- a segment has a row: where two rows in turn aren't whole, there is none between them
abbrev pub has_row : RowSegment → Bool
has_row segment = nat_lt segment.first segment.end

-- the segments but the first that have a row
abbrev pub later_segments : List StreamRow → List RowSegment
later_segments rows = filter has_row (drop 1 (row_segments rows))

-- ---- fates by rows
-- the mark of the first segment that ends after row r
unfoldable pub mark_of_row : List RowSegment → ℕ → Option ℕ
mark_of_row [] r = None
mark_of_row (segment ∷ segments) r = if nat_lt r segment.end then segment.mark else mark_of_row segments r

-- the fate of a frame with these first and last rows: by the first row that isn't whole from its first one on, by the
-- first one at all, and
-- by the mark of its segment
abbrev pub fate_by_rows : List StreamRow → List Extent → Extent → ℕ → ℕ → Fate
fate_by_rows rows all frame r q =
    if nat_lt q (spoiled_after rows r)
    then (if nat_lt r (spoiled_after rows 0) then Got r q else fate_after (mark_of_row (row_segments rows) r) all frame
    r q)
    else Cut r q (spoiled_after rows r)
