-- G.7041, frame-mapped GFP: a stream is made of idle frames and client frames, here called pieces.
use Rattle.std.specs.Prelude.{ℕ, ◌+◌, nat_le, List, [], ◌∷◌, ◌++◌, length, map, filter, replicate, take, drop, flat_map}
use Rattle.law_model.specs.frames.Scramble.{scrambled_octets}
use Rattle.law_model.specs.frames.Core.{core_header}
use Rattle.law_model.specs.frames.TypeHeader.{type_header}

-- one piece of the stream
pub data Piece : Type 0 where
  idle : Piece
  client : List ℕ → Piece

-- the payload area of a piece, as it is before scrambling
abbrev pub area_of : Piece → List ℕ
area_of idle = []
area_of (client frame) = type_header ++ frame

-- octets cut at these lengths
unfoldable pub cut : List ℕ → List ℕ → List (List ℕ)
cut [] octets = []
cut (size ∷ sizes) octets = take size octets ∷ cut sizes (drop size octets)

-- octets of several areas as one list
abbrev pub joined : List (List ℕ) → List ℕ
joined areas = flat_map (λ area. area) areas

-- areas that are scrambled as one list and cut back at the same lengths
abbrev pub scrambled_areas : List (List ℕ) → List (List ℕ)
scrambled_areas areas = cut (map length areas) (scrambled_octets (joined areas))

-- a payload area, with its core header in front
abbrev pub with_header : List ℕ → List ℕ
with_header area = core_header (length area) ++ area

-- the octets of areas on the stream
abbrev pub areas_stream : List (List ℕ) → List ℕ
areas_stream areas = flat_map with_header (scrambled_areas areas)

-- those of pieces
abbrev pub stream_of : List Piece → List ℕ
stream_of pieces = areas_stream (map area_of pieces)

-- the number of octets that a piece has on the stream
abbrev pub size_of : Piece → ℕ
size_of piece = 4 + length (area_of piece)

-- the frames among pieces, each with the place at which its piece ends, where the first piece begins at a place
unfoldable pub frame_ends : ℕ → List Piece → List (ℕ × List ℕ)
frame_ends place [] = []
frame_ends place (idle ∷ pieces) = frame_ends (place + size_of idle) pieces
frame_ends place (client frame ∷ pieces) =
    (place + size_of (client frame), frame) ∷ frame_ends (place + size_of (client frame)) pieces

-- the frames whose piece ends by a place of the stream, in order
abbrev pub frames_by : ℕ → List Piece → List (List ℕ)
frames_by place pieces = map (λ end. end.1) (filter (λ end. nat_le end.0 place) (frame_ends 0 pieces))

-- the pieces of a stream in which all frames wait from the start: two idles, the frames, and a number of idles. The two
-- idles at
-- the start are this project's own
abbrev pub opening : List (List ℕ) → ℕ → List Piece
opening frames idles = idle ∷ idle ∷ map client frames ++ replicate idles idle
