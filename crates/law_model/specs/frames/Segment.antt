-- G.7041 over the rows of a group: the segments of a stream that comes in rows, which are the longest runs of whole
-- rows, and the
-- frames that they give. That a row which isn't whole breaks the stream is this project's own.
use Rattle.std.specs.Prelude.{ℕ, ◌+◌, Bool, true, false, List, [], ◌∷◌, ◌++◌, length, flat_map}
use Rattle.law_model.specs.frames.Outcome.{outcomes}
use Rattle.law_model.specs.frames.Delivery.{frame_in}

-- a row: whether it is whole, and the octets of the stream that were sent in it
pub record StreamRow : Type 0 where
  pub whole : Bool
  pub octets : List ℕ

-- a segment: whether it is the first, the place of its first octet in the stream, and its octets
pub record Segment : Type 0 where
  pub first : Bool
  pub base : ℕ
  pub octets : List ℕ

-- the segments that have ended, and the one that goes on with the next row
pub record Segments : Type 0 where
  pub ended : List Segment
  pub last : Segment

-- a whole row goes on with the last segment
abbrev pub longer : Segments → List ℕ → Segments
longer come octets = record {
  ended = come.ended;
  last = record { first = come.last.first; base = come.last.base; octets = come.last.octets ++ octets };
}

-- a row that isn't whole ends it, and the next one begins after the row
abbrev pub broken : Segments → List ℕ → Segments
broken come octets = record {
  ended = come.ended ++ come.last ∷ [];
  last = record { first = false; base = come.last.base + length come.last.octets + length octets; octets = [] };
}

abbrev pub row_by : Bool → Segments → List ℕ → Segments
row_by true come octets = longer come octets
row_by false come octets = broken come octets

unfoldable pub segments_on : Segments → List StreamRow → Segments
segments_on come [] = come
segments_on come (row ∷ rows) = segments_on (row_by row.whole come row.octets) rows

-- no row has come
abbrev pub no_rows : Segments
no_rows = record { ended = []; last = record { first = true; base = 0; octets = [] } }

abbrev pub segments_of : List StreamRow → Segments
segments_of rows = segments_on no_rows rows

-- all of them, in order. Two rows in turn that aren't whole leave a segment without octets between them, which gives
-- nothing and in
-- which no frame lies
abbrev pub segments : List StreamRow → List Segment
segments rows = (segments_of rows).ended ++ (segments_of rows).last ∷ []

-- the frames that a segment gives
abbrev pub segment_frames : ℕ → Segment → List (List ℕ)
segment_frames longest segment = flat_map frame_in (outcomes longest segment.first segment.octets)

-- the frames that all segments give, of at most this number of octets
abbrev pub deliver : ℕ → List StreamRow → List (List ℕ)
deliver longest rows = flat_map (segment_frames longest) (segments rows)

-- the octets of rows, whole or not
abbrev pub octets_of_rows : List StreamRow → List ℕ
octets_of_rows rows = flat_map (λ row. row.octets) rows
