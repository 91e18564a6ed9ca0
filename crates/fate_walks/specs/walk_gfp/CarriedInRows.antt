-- The client frames that taken rows carry, as `gfp` writes them.
use Rattle.std.specs.Prelude.{ℕ, ◌-◌, List, length, map, filter}
use Rattle.law_model.specs.Common.{Leg, Piece, StreamRow, octets_of_rows, Extent, extents, is_carried, Counts}
use Rattle.law_walk.specs.Common.{session_rows, session_pieces}
use Rattle.fate_engine.specs.Common.{row_at}
use Rattle.text_captures.specs.capture_file.WrittenCapture.{RowFrame}
use Rattle.text_captures.specs.capture_file.GfpInCapture.{gfp_capture}

-- a frame of the stream, with the row that has the last octet of its piece
abbrev pub with_last_row : List StreamRow → Extent → RowFrame
with_last_row rows extent = record { row = row_at rows (extent.to - 1); frame = extent.frame }

-- the frames among some extents whose pieces end in the rows
abbrev pub carried_among : List StreamRow → List Extent → List RowFrame
carried_among rows all = map (with_last_row rows) (filter (is_carried (length (octets_of_rows rows))) all)

-- the frames of a stream whose pieces end in the rows, in order
abbrev pub carried_frames : List Piece → List StreamRow → List RowFrame
carried_frames pieces rows = carried_among rows (extents 0 pieces)

-- the GFP frames of the client's stream that the taken rows of a walk carry, as a capture
abbrev pub sent_capture : Leg → Counts → List ℕ
sent_capture leg s = gfp_capture (carried_frames (session_pieces leg) (session_rows leg s.rows))
