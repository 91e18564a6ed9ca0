-- The places of the client frames of a stream, by lengths alone.
use Rattle.std.specs.Prelude.{ℕ, ◌+◌, ◌-◌, ◌*◌, ◌/◌, nat_le, if◌then◌else◌, List, [], ◌∷◌, ◌++◌, map, length}
use Rattle.law_model.specs.Common.{size, Stream, Extent, extents}

-- the place at which the pieces end; of each client frame among them where its piece begins and ends; the lengths of
-- the frames that wait
pub record Ruler : Type 0 where
  pub end : ℕ
  pub sent : List (ℕ × ℕ)
  pub waiting : List ℕ

abbrev pub sides : List Extent → List (ℕ × ℕ)
sides all = map (λ (e : Extent). (e.from, e.to)) all

-- that of a stream
abbrev pub ruler_of : Stream → Ruler
ruler_of stream = record {
  end = size stream.pieces;
  sent = sides (extents 0 stream.pieces);
  waiting =
      map length stream.waiting;
}

-- that of the two idles at the start of a stream
abbrev pub new_ruler : Ruler
new_ruler = record { end = 8; sent = []; waiting = [] }

-- with one more frame that waits
abbrev pub with_waiting : Ruler → ℕ → Ruler
with_waiting ruler n = record { end = ruler.end; sent = ruler.sent; waiting = ruler.waiting ++ n ∷ [] }

-- idles up to a place, of four octets each
abbrev pub idles_to : ℕ → ℕ → ℕ
idles_to place end = if nat_le place end then end else end + 4 * ((place - end + 3) / 4)

-- the fewest more pieces that reach a place
unfoldable pub ruled : ℕ → ℕ → List (ℕ × ℕ) → List ℕ → Ruler
ruled place end sent [] = record { end = idles_to place end; sent = sent; waiting = [] }
ruled place end sent (n ∷ waiting) =
    if nat_le place end then record { end = end; sent = sent; waiting = n ∷ waiting }
    else ruled place (end + (8 + n)) (sent ++ (end, end + (8 + n)) ∷ []) waiting
