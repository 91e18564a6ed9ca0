-- What is kept of accepted frames.
use Rattle.std.specs.Prelude.{◌≡◌, ℕ, ◌+◌, ◌-◌, ◌%◌, ◌==◌, ◌&&◌, nat_le, ◌≤◌, ◌<◌, ◌^◌, Bool, List, [], ◌∷◌, ◌++◌, map}
use Rattle.std.specs.Prelude.{take, drop, length, filter, nat_lt, All, Some, slice_get, slice_index_or}
use Rattle.fate_engine.specs.fate_law.Ruler.{Ruler}
use Rattle.fate_engine.specs.declared.fate_core.frame_ruler.Piece.{Piece}

-- where the piece of a frame begins and ends
abbrev pub side_of : Piece → ℕ × ℕ
side_of piece = (piece.from, piece.from + (8 + piece.length))

abbrev pub ruler_in : List Piece → ℕ → ℕ → Ruler
ruler_in frames begun end = record {
  end = end;
  sent = map side_of (take begun frames);
  waiting = map (λ (piece : Piece). piece.length) (drop begun frames);
}

-- with the piece of the frame that waits longest, where one does
abbrev begun_by : ℕ → List (ℕ × ℕ) → List ℕ → Ruler
begun_by end sent [] = record { end = end; sent = sent; waiting = [] }
begun_by end sent (n ∷ waiting) =
    record { end = end + (8 + n); sent = sent ++ (end, end + (8 + n)) ∷ []; waiting = waiting }

abbrev pub with_begun : Ruler → Ruler
with_begun ruler = begun_by ruler.end ruler.sent ruler.waiting

-- a place is a whole number of idles behind another
abbrev pub is_fourth : ℕ → ℕ → Bool
is_fourth end place = nat_le end place && (place - end) % 4 == 0

-- sides stand in order from a place on, and end by another
unfoldable pub AreInOrder : ℕ → List (ℕ × ℕ) → ℕ → Type 0
AreInOrder from [] end = from ≤ end
AreInOrder from (side ∷ sides) end = (from ≤ side.0) × (side.0 < side.1) × AreInOrder side.1 sides end

-- so many frames begin at a place or before, and the others behind it
pub record IsBegun (sent : List (ℕ × ℕ)) (place i : ℕ) : Type 0 where
  pub within : i ≤ length sent
  pub begun : (k : ℕ) (side : ℕ × ℕ) → k < i → slice_get sent k ≡ Some side → side.0 ≤ place
  pub above : (k : ℕ) (d : ℕ × ℕ) → i ≤ k → k < length sent → place < (slice_index_or sent k d).0

-- how many frames begin before a place
abbrev pub begun_before : ℕ → List (ℕ × ℕ) → ℕ
begun_before place sent = length (filter (λ (side : ℕ × ℕ). nat_lt side.0 place) sent)

-- what is true of the fields
pub record IsRuler (frames : List Piece) (begun end : ℕ) : Type 0 where
  pub within : begun ≤ length frames
  pub short : All (λ (piece : Piece). piece.length < 2 ^ 16) frames
  pub order : AreInOrder 0 (map side_of (take begun frames)) end
  pub low : end < 2 ^ 63 + 65544
