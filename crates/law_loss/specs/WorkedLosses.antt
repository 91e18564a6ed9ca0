-- A worked stream with two rows that aren't whole.
use Rattle.std.specs.Prelude.{ℕ, ◌+◌, Bool, true, false, List, [], ◌∷◌, map, length, take, drop, Option, Some, None}
use Rattle.law_model.specs.Common.{Piece, idle, client, stream_of, StreamRow, Segment, Extent}

abbrev pub kept_frame : List ℕ
kept_frame = 7 ∷ 8 ∷ []

-- two idles of 4 octets, six frames of two octets, which take 10 with their headers, and an idle
abbrev pub worked_pieces : List Piece
worked_pieces =
    idle ∷ idle ∷ client (1 ∷ 2 ∷ []) ∷ client (3 ∷ 4 ∷ []) ∷ client (5 ∷ 6 ∷ []) ∷ client kept_frame ∷ client
    (9 ∷ 10 ∷ [])
    ∷ client (11 ∷ 12 ∷ []) ∷ idle ∷ []

unfoldable pub worked_stream : List ℕ
worked_stream = stream_of worked_pieces

abbrev row : Bool → ℕ → ℕ → StreamRow
row whole from count = record { whole = whole; octets = take count (drop from worked_stream) }

-- rows of 12 octets, of 4, of 34, of 4 and of 16; the second and the fourth aren't whole
unfoldable pub worked_rows : List StreamRow
worked_rows = row true 0 12 ∷ row false 12 4 ∷ row true 16 34 ∷ row false 50 4 ∷ row true 54 16 ∷ []

-- where frames begin and end in the stream, and where segments do
abbrev pub places_of : List Extent → List (ℕ × ℕ)
places_of frames = map (λ (e : Extent). (e.from, e.to)) frames

abbrev pub ends_of : List Segment → List (ℕ × ℕ)
ends_of segments = map (λ (s : Segment). (s.base, s.base + length s.octets)) segments

abbrev pub worked_places : List (ℕ × ℕ)
worked_places = (8, 18) ∷ (18, 28) ∷ (28, 38) ∷ (38, 48) ∷ (48, 58) ∷ (58, 68) ∷ []

abbrev pub worked_ends : List (ℕ × ℕ)
worked_ends = (0, 12) ∷ (16, 50) ∷ (54, 70) ∷ []

abbrev pub worked_confirmed : List (Option ℕ)
worked_confirmed = Some 4 ∷ Some 28 ∷ None ∷ []

abbrev pub worked_lost : List Bool
worked_lost = true ∷ true ∷ true ∷ false ∷ true ∷ true ∷ []
