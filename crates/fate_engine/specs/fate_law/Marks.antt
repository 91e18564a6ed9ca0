-- The mark of a segment, which is the place that is confirmed first in it, and whether it is true: whether a piece
-- begins there.
use Rattle.std.specs.Prelude.{ℕ, ◌+◌, ◌==◌, ◌||◌, Bool, true, List, [], ◌∷◌, Option, Some, None}
use Rattle.std.specs.List.{list_any, list_all}
use Rattle.law_model.specs.Common.{Piece, size_of, StreamRow, Segment, segments, confirmed_in}

-- the places at which pieces begin, where the first of them begins at a place
unfoldable pub places : ℕ → List Piece → List ℕ
places place [] = []
places place (piece ∷ pieces) = place ∷ places (place + size_of piece) pieces

-- a piece of the stream begins at a place
abbrev pub is_piece_at : List Piece → ℕ → Bool
is_piece_at pieces place = list_any (λ at. at == place) (places 0 pieces)

-- a mark is true, where there is one
abbrev pub is_true_mark : List Piece → Option ℕ → Bool
is_true_mark pieces None = true
is_true_mark pieces (Some place) = is_piece_at pieces place

-- that of a segment; the first one needs none
abbrev pub has_true_mark : List Piece → Segment → Bool
has_true_mark pieces segment = segment.first || is_true_mark pieces (confirmed_in segment)

-- all marks are true
abbrev pub are_true_marks : List Piece → List StreamRow → Bool
are_true_marks pieces rows = list_all (has_true_mark pieces) (segments rows)
