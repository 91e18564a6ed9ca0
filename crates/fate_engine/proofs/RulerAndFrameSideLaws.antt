-- A ruler of a stream: the sides of its frames in order, and which places are those of pieces.
use Rattle.std.proofs.Common.{◌≡◌, ℕ, zero, suc, ◌+◌, ◌-◌, ◌%◌, ◌<◌, ◌≤◌, ◌==◌, ◌&&◌, ◌||◌, Bool, false, nat_lt, List}
use Rattle.std.proofs.Common.{[], ◌∷◌, length, slice_get, slice_index_or, Some, refl, sym, ◌∙◌, ap, ap₂, subst, arith}
use Rattle.std.proofs.Common.{inl, inr, if◌then◌else◌, lt-ltb, le-ltb, le-leb, eq-eqb, ne_eqb, zero-add, ◌*◌, ◌/◌, ◌^◌}
use Rattle.std.proofs.Common.{true, nat_le, filter, ◌++◌, map, take, drop, slice_set, All}
use Rattle.std.specs.List.{list_any}
use Rattle.std.proofs.lemmas.Bool.{cases_lt, lt-leb, leb-true, leb-false, ltb-true}
use Rattle.std.proofs.lemmas.List.Sums.{sum_by-append, sum-map}
use Rattle.law_model.specs.Common.{Piece, idle, client, size_of, size, Stream, extents, stream_of, reaching, reached}
use Rattle.law_model.specs.Common.{Extent}
use Rattle.fate_engine.specs.Common.{places, is_piece_at, sides, ruler_of, is_fourth, Ruler, ruled, side_of, ruler_in}
use Rattle.fate_engine.specs.Common.{with_begun, IsBegun, IsRuler, idles_to}
use Rattle.fate_engine.specs.fate_core.FrameSides.{AreInOrder}
use Rattle.law_loss.proofs.ClientFrameExtentLaws.{and_false, extents-append}
use Rattle.fate_engine.proofs.SpoiledRunAndWholeContainerLaws.{eqb-sym}
use Rattle.std.specs.List.Sorted.{IsPartitionedBy, IsPartitionPoint}
use Rattle.std.proofs.lemmas.List.{length-map, map-append, take_more_set, length-set, get_or-map, append-nil}
use Rattle.std.proofs.lemmas.List.Elements.{All-cons}
use Rattle.fate_engine.specs.declared.fate_core.frame_ruler.Piece.{Piece as RulerPiece}
use Rattle.law_model.proofs.StreamOfPiecesLaws.{length-stream_of, length-stream_of-cons}

-- ---- Which places are those of pieces, by the sides of frames.
-- ---- by sides
unfoldable pub piece_in : ℕ → List (ℕ × ℕ) → ℕ → ℕ → Bool
piece_in start [] end place = nat_lt place end && is_fourth start place
piece_in start (side ∷ rest) end place =
    if nat_lt place side.0 then is_fourth start place else (place == side.0 || piece_in side.1 rest end place)

pub order-low : (from : ℕ) (list : List (ℕ × ℕ)) (end : ℕ) → AreInOrder from list end → from ≤ end
unfolding AreInOrder
order-low from [] end are = are
order-low from (side ∷ list) end are = let rest = order-low side.1 list end are.2 in let a = are.0 in let b = are.1 in
    omega (arith, rest, a, b)

early : (start place : ℕ) → place < start → is_fourth start place ≡ false
early start place low = ap (λ b. b && (place - start) % 4 == 0) (lt-leb start place low)

piece-early : (start : ℕ) (list : List (ℕ × ℕ)) (end place : ℕ) → AreInOrder start list end → place < start →
    piece_in start list end place ≡ false
unfolding piece_in AreInOrder
piece-early start [] end place are low = ap (λ b. nat_lt place end && b) (early start place low)
    ∙ and_false (nat_lt place end)
piece-early start (side ∷ list) end place are low =
    rw (lt-ltb place side.0 (let a = are.0 in omega (arith, a, low))) (early start place low)

fourth-next : (start place : ℕ) → is_fourth start place ≡ (start == place || is_fourth (start + 4) place)
fourth-next start place =
    elim (cases_lt place start) [
      | inl low ↦ early start place low
          ∙ sym (ap₂ ◌||◌ (ne_eqb start place (λ same. omega (arith, same, low)))
          (early (start + 4) place (omega arith)))
      | inr high ↦ elim (cases_lt start place) [
        | inr same ↦ (
            let e : start ≡ place = omega arith in
            let none : (place - start) % 4 ≡ 0 = (let d : place - start ≡ 0 = omega arith in ap (λ n. n % 4) d) in
            ap₂ ◌&&◌ (le-leb start place high) (eq-eqb ((place - start) % 4) 0 none)
            ∙ sym (ap (λ b. b || is_fourth (start + 4) place) (eq-eqb start place e)))
        | inl above ↦ (
            let apart : (start == place) ≡ false = ne_eqb start place (λ same. omega (arith, same, above)) in
            elim (cases_lt place (start + 4)) [
              | inl near ↦ (
                  let some : ((place - start) % 4 == 0) ≡ false =
                  ne_eqb ((place - start) % 4) 0 (λ none. omega (arith, none, near, above)) in
                  ap₂ ◌&&◌ (le-leb start place high) some ∙ sym (ap₂ ◌||◌ apart (early (start + 4) place near)))
              | inr far ↦ (
                  let same : (place - start) % 4 ≡ (place - (start + 4)) % 4 = omega arith in
                  ap₂ ◌&&◌ (le-leb start place high) (ap (λ n. n == 0) same)
                  ∙ sym (ap₂ ◌||◌ apart (ap (λ b. b && (place - (start + 4)) % 4 == 0) (le-leb (start + 4) place far))))
            ])
      ]
    ]

piece-next : (start : ℕ) (list : List (ℕ × ℕ)) (end place : ℕ) → AreInOrder (start + 4) list end →
    piece_in start list end place ≡ (start == place || piece_in (start + 4) list end place)
unfolding piece_in AreInOrder
piece-next start [] end place are =
    elim (cases_lt place end) [
      | inl low ↦ rw (lt-ltb place end low) (fourth-next start place)
      | inr high ↦ rw (le-ltb place end high)
          (sym (ap (λ b. b || false) (ne_eqb start place (λ same. omega (arith, same, high, are)))))
    ]
piece-next start (side ∷ list) end place are =
    elim (cases_lt place side.0) [
      | inl low ↦ rw (lt-ltb place side.0 low) (fourth-next start place)
      | inr high ↦ rw (le-ltb place side.0 high)
          (sym (ap (λ b. b || (place == side.0 || piece_in side.1 list end place))
          (ne_eqb start place (λ same. let a = are.0 in omega (arith, same, high, a)))))
    ]

-- ---- the pieces of a stream
cons-size : (piece : Piece) (pieces : List Piece) → size (piece ∷ pieces) ≡ size_of piece + size pieces
cons-size piece pieces = sum_by-append size_of (piece ∷ []) pieces
    ∙ ap (λ n. n + size pieces) (zero-add (size_of piece))

pub order-of : (start : ℕ) (pieces : List Piece) → AreInOrder start (sides (extents start pieces)) (start + size pieces)
unfolding AreInOrder extents
order-of start [] = omega arith
order-of start (idle ∷ pieces) =
    let all : start + 4 + size pieces ≡ start + size (idle ∷ pieces) =
    (let e = cons-size idle pieces in omega (arith, e)) in
    order-more start (start + 4) (sides (extents (start + 4) pieces)) (start + size (idle ∷ pieces)) (omega arith)
    (subst (AreInOrder (start + 4) (sides (extents (start + 4) pieces))) all (order-of (start + 4) pieces))
  where
    order-more : (from next : ℕ) (list : List (ℕ × ℕ)) (end : ℕ) → from ≤ next → AreInOrder next list end →
        AreInOrder from list end
    order-more from next [] end low are = omega (arith, low, are)
    order-more from next (side ∷ list) end low are = ((let a = are.0 in omega (arith, a, low)), are.1, are.2)
order-of start (client frame ∷ pieces) =
    let s : ℕ = size_of (client frame) in
    let all : start + s + size pieces ≡ start + size (client frame ∷ pieces) =
    (let e = cons-size (client frame) pieces in omega (arith, e)) in (
      omega arith,
      omega arith,
      subst (AreInOrder (start + s) (sides (extents (start + s) pieces))) all
          (order-of (start + s) pieces),
    )

pieces-in : (start : ℕ) (pieces : List Piece) (place : ℕ) →
    list_any (λ at. at == place) (places start pieces) ≡ piece_in start (sides (extents start pieces))
    (start + size pieces) place
unfolding places extents piece_in
pieces-in start [] place =
    elim (cases_lt place start) [
      | inl low ↦ sym (ap (λ b. nat_lt place (start + 0) && b) (early start place low)
          ∙ and_false (nat_lt place (start + 0)))
      | inr high ↦ sym (ap (λ b. b && is_fourth start place) (le-ltb place (start + 0) (omega (arith, high))))
    ]
pieces-in start (idle ∷ pieces) place =
    let list : List (ℕ × ℕ) = sides (extents (start + 4) pieces) in
    let all : start + 4 + size pieces ≡ start + size (idle ∷ pieces) =
    (let e = cons-size idle pieces in omega (arith, e)) in
    ap (λ b. (start == place) || b)
    (pieces-in (start + 4) pieces place ∙ ap (λ n. piece_in (start + 4) list n place) all)
    ∙ sym (piece-next start list (start + size (idle ∷ pieces)) place
    (subst (AreInOrder (start + 4) list) all (order-of (start + 4) pieces)))
pieces-in start (client frame ∷ pieces) place =
    let s : ℕ = size_of (client frame) in
    let list : List (ℕ × ℕ) = sides (extents (start + s) pieces) in
    let end : ℕ = start + size (client frame ∷ pieces) in
    let all : start + s + size pieces ≡ end = (let e = cons-size (client frame) pieces in omega (arith, e)) in
    let rest = pieces-in (start + s) pieces place ∙ ap (λ n. piece_in (start + s) list n place) all in
    let are : AreInOrder (start + s) list end = subst (AreInOrder (start + s) list) all (order-of (start + s) pieces) in
    elim (cases_lt place start) [
      | inl low ↦ rw (lt-ltb place start low)
          (ap₂ ◌||◌ (ne_eqb start place (λ same. omega (arith, same, low)))
          (rest ∙ piece-early (start + s) list end place are (omega (arith, low))) ∙ sym (early start place low))
      | inr high ↦ rw (le-ltb place start high) (ap₂ ◌||◌ (eqb-sym start place) rest)
    ]

pub piece-by : (stream : Stream) (place : ℕ) →
    is_piece_at stream.pieces place ≡ piece_in 0 (ruler_of stream).sent (ruler_of stream).end place
piece-by stream place = pieces-in 0 stream.pieces place
    ∙ ap (λ n. piece_in 0 (sides (extents 0 stream.pieces)) n place)
    (let e : 0 + size stream.pieces ≡ size stream.pieces = omega arith in e)

-- ---- the search
pub piece-late : (start : ℕ) (list : List (ℕ × ℕ)) (end place : ℕ) → AreInOrder start list end → end ≤ place →
    piece_in start list end place ≡ false
unfolding piece_in AreInOrder
piece-late start [] end place are high = ap (λ b. b && is_fourth start place) (le-ltb place end high)
piece-late start (side ∷ list) end place are high =
    let low = order-low side.1 list end are.2 in
    let some = are.1 in
    rw (le-ltb place side.0 (omega (arith, low, some, high)))
    (ap₂ ◌||◌ (ne_eqb place side.0 (λ same. omega (arith, same, low, some, high)))
    (piece-late side.1 list end place are.2 high))

abbrev pub Above : List (ℕ × ℕ) → ℕ → ℕ → Type 0
Above list place i = (k : ℕ) (d : ℕ × ℕ) → i ≤ k → k < length list → place < (slice_index_or list k d).0

pub piece-none : (start : ℕ) (list : List (ℕ × ℕ)) (end place : ℕ) → place < end → Above list place 0 →
    piece_in start list end place ≡ is_fourth start place
unfolding piece_in
piece-none start [] end place low above = ap (λ b. b && is_fourth start place) (lt-ltb place end low)
piece-none start (side ∷ list) end place low above =
    rw (lt-ltb place side.0 (above 0 side (omega arith) (omega arith))) refl

pub piece-found : (start : ℕ) (list : List (ℕ × ℕ)) (end place i : ℕ) (side : ℕ × ℕ) → AreInOrder start list end →
    place < end →
    slice_get list i ≡ Some side → side.0 ≤ place → Above list place (suc i) →
    piece_in start list end place ≡ (place == side.0 || is_fourth side.1 place)
unfolding piece_in AreInOrder
piece-found start [] end place zero side are low there begun above = absurd cc
piece-found start [] end place (suc i) side are low there begun above = absurd cc
piece-found start (own ∷ list) end place zero side are low there begun above =
    let same : own ≡ side = cc in
    let here : own.0 ≤ place = subst (λ (s : ℕ × ℕ). s.0 ≤ place) (sym same) begun in
    rw (le-ltb place own.0 here)
    (ap (λ b. place == own.0 || b) (piece-none own.1 list end place low
    (λ k d from within. above (suc k) d (omega arith) (omega arith)))
    ∙ ap (λ (s : ℕ × ℕ). place == s.0 || is_fourth s.1 place) same)
piece-found start (own ∷ list) end place (suc i) side are low there begun above =
    let later : own.1 ≤ side.0 = side-late own.1 list end i side are.2 there in
    let some = are.1 in
    rw (le-ltb place own.0 (omega (arith, later, some, begun)))
    (ap (λ b. b || piece_in own.1 list end place) (ne_eqb place own.0 (λ same. omega (arith, same, later, some, begun)))
    ∙ piece-found own.1 list end place i side are.2 low there begun
    (λ k d from within. above (suc k) d (omega arith) (omega arith)))
  where
    side-late : (from : ℕ) (list : List (ℕ × ℕ)) (end i : ℕ) (side : ℕ × ℕ) → AreInOrder from list end →
        slice_get list i ≡ Some side → from ≤ side.0
    side-late from [] end zero side are there = absurd cc
    side-late from [] end (suc i) side are there = absurd cc
    side-late from (own ∷ list) end zero side are there =
        (let same : own ≡ side = cc in subst (λ (s : ℕ × ℕ). from ≤ s.0) same are.0)
    side-late from (own ∷ list) end (suc i) side are there =
        (let rest = side-late own.1 list end i side are.2 there in let a = are.0 in let b = are.1 in
        omega (arith, rest, a, b))

-- ---- What the calls of a ruler do to its fields.
-- ---- lists

set-short : (xs : List RulerPiece) (i : ℕ) (x : RulerPiece) → x.length < 2 ^ 16 → All (λ (p : RulerPiece). p.length < 2 ^ 16) xs →
    All (λ (p : RulerPiece). p.length < 2 ^ 16) (slice_set xs i x)
set-short [] i x low all = all
set-short (own ∷ xs) zero x low all =
    All-cons (λ (p : RulerPiece). p.length < 2 ^ 16) x xs low (λ k d within. all (suc k) d (omega arith))
set-short (own ∷ xs) (suc i) x low all =
    All-cons (λ (p : RulerPiece). p.length < 2 ^ 16) own (slice_set xs i x) (all zero own (omega arith))
    (set-short xs i x low (λ k d within. all (suc k) d (omega arith)))

order-push : (from : ℕ) (list : List (ℕ × ℕ)) (end next : ℕ) → AreInOrder from list end → end < next →
    AreInOrder from (list ++ (end, next) ∷ []) next
unfolding AreInOrder
order-push from [] end next are low = (are, low, omega arith)
order-push from (side ∷ list) end next are low = (are.0, are.1, order-push side.1 list end next are.2 low)

-- ---- a frame that begins
pub waits-some : (frames : List RulerPiece) (begun end : ℕ) → 0 < length (ruler_in frames begun end).waiting →
    begun < length frames
waits-some frames begun end some =
    by frames begun (subst (λ n. 0 < n) (length-map (drop begun frames) (λ (p : RulerPiece). p.length)) some)
  where
    by : (frames : List RulerPiece) (begun : ℕ) → 0 < length (drop begun frames) → begun < length frames
    by [] zero some = some
    by [] (suc begun) some = absurd (omega (arith, some))
    by (frame ∷ frames) zero some = omega arith
    by (frame ∷ frames) (suc begun) some = let rest = by frames begun some in omega (arith, rest)

pub some-waits : (frames : List RulerPiece) (begun end : ℕ) → begun < length frames →
    0 < length (ruler_in frames begun end).waiting
some-waits frames begun end low =
    subst (λ n. 0 < n) (sym (length-map (drop begun frames) (λ (p : RulerPiece). p.length))) (by frames begun low)
  where
    by : (frames : List RulerPiece) (begun : ℕ) → begun < length frames → 0 < length (drop begun frames)
    by [] begun low = absurd (omega arith)
    by (frame ∷ frames) zero low = omega arith
    by (frame ∷ frames) (suc begun) low = by frames begun (omega (arith, low))

pub begins : (frames : List RulerPiece) (begun end : ℕ) (piece : RulerPiece) → IsRuler frames begun end → begun < length frames →
    end < 2 ^ 63 → piece.from ≡ end → piece.length < 2 ^ 16 →
    IsRuler (slice_set frames begun piece) (begun + 1) (end + (8 + piece.length))
begins frames begun end piece is low below from short = record {
  within = (let same = length-set frames begun piece in omega (arith, same, low));
  short = set-short frames begun piece short is.short;
  order = subst (λ l. AreInOrder 0 l (end + (8 + piece.length)))
      (sym
      (ap (map side_of) (take_more_set frames begun piece low) ∙ map-append side_of (take begun frames) (piece ∷ [])
      ∙ ap (λ n. map side_of (take begun frames) ++ (n, n + (8 + piece.length)) ∷ []) from))
      (order-push 0 (map side_of (take begun frames)) end (end + (8 + piece.length)) is.order (omega arith));
  low = omega (arith, below, short);
}

pub ruled-step : (place end : ℕ) (sent : List (ℕ × ℕ)) (waiting : List ℕ) → 0 < length waiting → end < place →
    ruled place (with_begun (record { end = end; sent = sent; waiting = waiting })).end
    (with_begun (record { end = end; sent = sent; waiting = waiting })).sent
    (with_begun (record { end = end; sent = sent; waiting = waiting })).waiting
    ≡ ruled place end sent waiting
unfolding ruled
ruled-step place end sent [] some low = absurd (omega (arith, some))
ruled-step place end sent (n ∷ waiting) some low = rw (lt-leb place end low) refl

pub fewer : (ruler : Ruler) → 0 < length ruler.waiting → length (with_begun ruler).waiting < length ruler.waiting
fewer ruler some = by ruler.end ruler.sent ruler.waiting some
  where
    by : (end : ℕ) (sent : List (ℕ × ℕ)) (waiting : List ℕ) → 0 < length waiting →
        length (with_begun (record { end = end; sent = sent; waiting = waiting })).waiting < length waiting
    by end sent [] some = absurd (omega (arith, some))
    by end sent (n ∷ waiting) some = omega arith

-- ---- the place is reached
pub ruled-there : (place : ℕ) (ruler : Ruler) → place ≤ ruler.end →
    ruled place ruler.end ruler.sent ruler.waiting ≡ ruler
unfolding ruled
ruled-there place ruler high = by ruler.end ruler.sent ruler.waiting high
  where
    by : (end : ℕ) (sent : List (ℕ × ℕ)) (waiting : List ℕ) → place ≤ end →
        ruled place end sent waiting ≡ record { end = end; sent = sent; waiting = waiting }
    by end sent [] high = rw (le-leb place end high) refl
    by end sent (n ∷ waiting) high = rw (le-leb place end high) refl

pub ruled-idles : (place : ℕ) (ruler : Ruler) → ruler.end < place → ruler.waiting ≡ [] →
    ruled place ruler.end ruler.sent ruler.waiting
    ≡ record { end = ruler.end + (place - ruler.end + 3) / 4 * 4; sent = ruler.sent; waiting = ruler.waiting }
unfolding ruled
ruled-idles place ruler low none =
    ap (ruled place ruler.end ruler.sent) none
    ∙ rw (lt-leb place ruler.end low) (ap₂ (λ n (w : List ℕ). record { end = n; sent = ruler.sent; waiting = w })
    (let e : ruler.end + 4 * ((place - ruler.end + 3) / 4) ≡ ruler.end + (place - ruler.end + 3) / 4 * 4 =
    omega arith in e) (sym none))

order-more : (from : ℕ) (list : List (ℕ × ℕ)) (end next : ℕ) → AreInOrder from list end → end ≤ next →
    AreInOrder from list next
unfolding AreInOrder
order-more from [] end next are more = omega arith
order-more from (side ∷ list) end next are more = (are.0, are.1, order-more side.1 list end next are.2 more)

pub longer : (frames : List RulerPiece) (begun end next : ℕ) → IsRuler frames begun end → end ≤ next →
    next < 2 ^ 63 + 65544 → IsRuler frames begun next
longer frames begun end next is more low =
    record {
      within = is.within;
      short = is.short;
      order = order-more 0 (map side_of (take begun frames)) end next is.order more;
      low = low;
    }

-- ---- the sides of a frame
pub side-at : (frames : List RulerPiece) (begun k : ℕ) (piece : RulerPiece) → k < begun → begun ≤ length frames →
    piece ≡ slice_index_or frames k piece → slice_get (map side_of (take begun frames)) k ≡ Some (side_of piece)
side-at [] zero k piece low within is = absurd (omega arith)
side-at [] (suc begun) k piece low within is = absurd (omega arith)
side-at (own ∷ frames) zero k piece low within is = absurd (omega arith)
side-at (own ∷ frames) (suc begun) zero piece low within is = ap (λ p. Some (side_of p)) (sym is)
side-at (own ∷ frames) (suc begun) (suc k) piece low within is =
    side-at frames begun k piece (omega arith) (omega (arith, within)) is

pub side-low : (from : ℕ) (list : List (ℕ × ℕ)) (end k : ℕ) (side : ℕ × ℕ) → AreInOrder from list end →
    slice_get list k ≡ Some side → side.1 ≤ end
unfolding AreInOrder
side-low from [] end zero side are there = absurd cc
side-low from [] end (suc k) side are there = absurd cc
side-low from (own ∷ list) end zero side are there = let same : own ≡ side = cc in
    subst (λ (s : ℕ × ℕ). s.1 ≤ end) same (order-low own.1 list end are.2)
side-low from (own ∷ list) end (suc k) side are there = side-low own.1 list end k side are.2 there

-- ---- the search among those that are begun
abbrev pub Begun : List RulerPiece → ℕ → ℕ → Type 0
Begun frames place i = IsPartitionPoint (λ (p : RulerPiece). nat_le p.from place ≡ true)
    (λ (p : RulerPiece). nat_le p.from place ≡ false) frames i

sides-rise : (from : ℕ) (list : List (ℕ × ℕ)) (end i j : ℕ) (d : ℕ × ℕ) → AreInOrder from list end → i ≤ j →
    j < length list → (from ≤ (slice_index_or list i d).0) × ((slice_index_or list i d).0 ≤ (slice_index_or list j d).0)
unfolding AreInOrder
sides-rise from [] end i j d are before within = absurd (omega arith)
sides-rise from (side ∷ list) end zero zero d are before within = (are.0, omega arith)
sides-rise from (side ∷ list) end (suc i) zero d are before within = absurd (omega arith)
sides-rise from (side ∷ list) end zero (suc j) d are before within =
    let rest = sides-rise side.1 list end j j d are.2 (omega arith) (omega arith) in let a = are.0 in let b = are.1 in
    (a, omega (arith, rest.0, b))
sides-rise from (side ∷ list) end (suc i) (suc j) d are before within =
    let rest = sides-rise side.1 list end i j d are.2 (omega arith) (omega arith) in let a = are.0 in let b = are.1 in
    (omega (arith, rest.0, a, b), rest.1)

pub parted : (frames : List RulerPiece) (end place : ℕ) → AreInOrder 0 (map side_of frames) end →
    IsPartitionedBy (λ (p : RulerPiece). nat_le p.from place) frames
parted frames end place are i j d before within passed =
    let count = length-map frames side_of in
    let rise = (sides-rise 0 (map side_of frames) end i j (side_of d) are before (omega (arith, within, count))).1 in
    let one = ap (λ (s : ℕ × ℕ). s.0) (get_or-map side_of frames i d (side_of d) (omega (arith, before, within))) in
    let other = ap (λ (s : ℕ × ℕ). s.0) (get_or-map side_of frames j d (side_of d) within) in
    let low = leb-true (slice_index_or frames j d).from place passed in
    le-leb (slice_index_or frames i d).from place (omega (arith, rise, one, other, low))

above : (frames : List RulerPiece) (place i : ℕ) → Begun frames place i → (k : ℕ) (e : ℕ × ℕ) → i ≤ k →
    k < length (map side_of frames) → place < (slice_index_or (map side_of frames) k e).0
above frames place i point k e from within =
    let low : k < length frames = (let count = length-map frames side_of in omega (arith, within, count)) in
    by frames refl low
  where
    by : (xs : List RulerPiece) → xs ≡ frames → k < length frames → place < (slice_index_or (map side_of frames) k e).0
    by [] none low = absurd (omega (arith, ap length none, low))
    by (x ∷ xs) some low =
        let same = ap (λ (s : ℕ × ℕ). s.0) (get_or-map side_of frames k x e low) in
        omega (arith, leb-false (slice_index_or frames k x).from place (point.1 k x from low), same)

map-get : (frames : List RulerPiece) (k : ℕ) (side : ℕ × ℕ) → slice_get (map side_of frames) k ≡ Some side →
    (piece : RulerPiece) × (k < length frames) × (slice_index_or frames k piece ≡ piece) × (side_of piece ≡ side)
map-get [] zero side there = absurd cc
map-get [] (suc k) side there = absurd cc
map-get (own ∷ frames) zero side there = (own, omega arith, refl, cc)
map-get (own ∷ frames) (suc k) side there = let rest = map-get frames k side there in
    (rest.0, (let low = rest.1 in omega (arith, low)), rest.2, rest.3)

pub is-begun : (frames : List RulerPiece) (place i : ℕ) → i ≤ length frames → Begun frames place i →
    IsBegun (map side_of frames) place i
is-begun frames place i within point = record {
  within = (let count = length-map frames side_of in omega (arith, within, count));
  begun = λ k side low there.
      let found = map-get frames k side there in
      let begins = leb-true (slice_index_or frames k found.0).from place (point.0 k found.0 (omega arith) low) in
      omega (arith, begins, ap (λ (p : RulerPiece). p.from) found.2, ap (λ (s : ℕ × ℕ). s.0) found.3);
  above = above frames place i point;
}

-- ---- the frames that begin before a place
pub parted-before : (frames : List RulerPiece) (end place : ℕ) → AreInOrder 0 (map side_of frames) end →
    IsPartitionedBy (λ (p : RulerPiece). nat_lt p.from place) frames
parted-before frames end place are i j d before within passed =
    let count = length-map frames side_of in
    let rise = (sides-rise 0 (map side_of frames) end i j (side_of d) are before (omega (arith, within, count))).1 in
    let one = ap (λ (s : ℕ × ℕ). s.0) (get_or-map side_of frames i d (side_of d) (omega (arith, before, within))) in
    let other = ap (λ (s : ℕ × ℕ). s.0) (get_or-map side_of frames j d (side_of d) within) in
    let low = ltb-true (slice_index_or frames j d).from place passed in
    lt-ltb (slice_index_or frames i d).from place (omega (arith, rise, one, other, low))

abbrev pub BegunBefore : List RulerPiece → ℕ → ℕ → Type 0
BegunBefore frames place i = IsPartitionPoint (λ (p : RulerPiece). nat_lt p.from place ≡ true)
    (λ (p : RulerPiece). nat_lt p.from place ≡ false) frames i

pub count-before : (frames : List RulerPiece) (place i : ℕ) → i ≤ length frames → BegunBefore frames place i →
    i ≡ length (filter (λ (side : ℕ × ℕ). nat_lt side.0 place) (map side_of frames))
count-before [] place i within point = omega (arith, within)
count-before (x ∷ frames) place zero within point =
    let rest = count-before frames place zero (omega arith)
    ((λ k d least low. absurd (omega (arith, low))), (λ k d from low. point.1 (suc k) d (omega arith) (omega (arith, low)))) in
    rw (point.1 0 x (omega arith) (omega arith)) rest
count-before (x ∷ frames) place (suc i) within point =
    let rest = count-before frames place i (omega (arith, within)) (
      (λ k d least low. point.0 (suc k) d (omega arith) (omega (arith, low))),
      (λ k d from low. point.1 (suc k) d (omega (arith, from)) (omega (arith, low))),
    ) in
    rw (point.0 0 x (omega arith) (omega arith)) (omega (arith, rest))

-- ---- The places of the client frames of a stream, by lengths alone; and that a stream's first pieces say which of its
-- places are those of
-- pieces.
long : (pieces : List Piece) → length (stream_of pieces) ≡ size pieces
long pieces = length-stream_of pieces ∙ sum-map size_of pieces

size-idle : (pieces : List Piece) → size (pieces ++ idle ∷ []) ≡ size pieces + 4
size-idle pieces = let sums = sum_by-append size_of pieces (idle ∷ []) in omega (arith, sums)

size-client : (pieces : List Piece) (frame : List ℕ) →
    size (pieces ++ client frame ∷ []) ≡ size pieces + (8 + length frame)
size-client pieces frame = let sums = sum_by-append size_of pieces (client frame ∷ []) in omega (arith, sums)

sides-idle : (pieces : List Piece) → sides (extents 0 (pieces ++ idle ∷ [])) ≡ sides (extents 0 pieces)
unfolding extents
sides-idle pieces = ap sides (extents-append 0 pieces (idle ∷ []) ∙ append-nil (extents 0 pieces))

sides-client : (pieces : List Piece) (frame : List ℕ) →
    sides (extents 0 (pieces ++ client frame ∷ [])) ≡ sides (extents 0 pieces) ++
    (size pieces, size pieces + (8 + length frame)) ∷ []
unfolding extents
sides-client pieces frame =
    let start : 0 + length (stream_of pieces) ≡ size pieces = omega (arith, long pieces) in
    ap sides (extents-append 0 pieces (client frame ∷ []))
    ∙ map-append (λ (e : Extent). (e.from, e.to)) (extents 0 pieces)
    (extents (0 + length (stream_of pieces)) (client frame ∷ []))
    ∙ ap₂ (λ from to. sides (extents 0 pieces) ++ (from, to) ∷ []) start
    (let e : 0 + length (stream_of pieces) + size_of (client frame) ≡ size pieces + (8 + length frame) =
    omega (arith, start) in e)

-- ---- idles
four-on : (place end : ℕ) → end < place → idles_to place (end + 4) ≡ idles_to place end
four-on place end short =
    elim (cases_lt (end + 4) place) [
      | inl more ↦ rw (lt-leb place (end + 4) more, lt-leb place end short) (omega (arith, more))
      | inr enough ↦ rw (le-leb place (end + 4) enough, lt-leb place end short) (omega (arith, enough, short))
    ]

idles-ruled : (steps place : ℕ) (pieces : List Piece) → place ≤ size pieces + steps →
    ruler_of (reaching steps place (record { pieces = pieces; waiting = [] }))
    ≡ record { end = idles_to place (size pieces); sent = sides (extents 0 pieces); waiting = [] }
unfolding reaching
idles-ruled zero place pieces enough = rw (le-leb place (size pieces) (omega (arith, enough))) refl
idles-ruled (suc steps) place pieces enough =
    elim (cases_lt (size pieces) place) [
      | inr here ↦ rw (le-leb place (size pieces) here) refl
      | inl short ↦
          let rest = idles-ruled steps place (pieces ++ idle ∷ []) (omega (arith, enough, size-idle pieces)) in
          rw (lt-leb place (size pieces) short)
          (rest ∙ ap₂ (λ end sent. record { end = end; sent = sent; waiting = [] })
          (ap (idles_to place) (size-idle pieces) ∙ four-on place (size pieces) short
          ∙ ap (λ b. if b then size pieces else size pieces + 4 * ((place - size pieces + 3) / 4))
          (lt-leb place (size pieces) short))
          (sides-idle pieces))
    ]

-- ---- frames
steps-ruled : (steps place : ℕ) (waiting : List (List ℕ)) (pieces : List Piece) → place ≤ size pieces + steps →
    ruler_of (reaching steps place (record { pieces = pieces; waiting = waiting })) ≡ ruled place (size pieces)
    (sides (extents 0 pieces)) (map length waiting)
unfolding reaching ruled
steps-ruled steps place [] pieces enough = idles-ruled steps place pieces enough
steps-ruled zero place (frame ∷ waiting) pieces enough = rw (le-leb place (size pieces) (omega (arith, enough))) refl
steps-ruled (suc steps) place (frame ∷ waiting) pieces enough =
    elim (cases_lt (size pieces) place) [
      | inr here ↦ rw (le-leb place (size pieces) here) refl
      | inl short ↦
          let rest = steps-ruled steps place waiting (pieces ++ client frame ∷ [])
          (omega (arith, enough, size-client pieces frame)) in
          rw (lt-leb place (size pieces) short)
          (rest ∙ ap₂ (λ end sent. ruled place end sent (map length waiting)) (size-client pieces frame)
          (sides-client pieces frame))
    ]

pub reached-ruled : (place : ℕ) (stream : Stream) →
    ruler_of (reached place stream) ≡ ruled place (ruler_of stream).end (ruler_of stream).sent (ruler_of stream).waiting
reached-ruled place stream = steps-ruled place place stream.waiting stream.pieces (omega arith)

-- ---- places that the first pieces reach
places-high : (start place : ℕ) (pieces : List Piece) → place < start →
    list_any (λ at. at == place) (places start pieces) ≡ false
unfolding places
places-high start place [] low = refl
places-high start place (piece ∷ pieces) low =
    ap₂ ◌||◌ (ne_eqb start place (λ same. omega (arith, same, low)))
    (places-high (start + size_of piece) place pieces (omega (arith, low)))

places-front : (start place : ℕ) (front more : List Piece) → place < start + length (stream_of front) →
    list_any (λ at. at == place) (places start (front ++ more)) ≡ list_any (λ at. at == place) (places start front)
unfolding places
places-front start place [] more low =
    places-high start place more (let none = length-stream_of [] in omega (arith, low, none))
places-front start place (piece ∷ front) more low =
    ap (λ b. (start == place) || b)
    (places-front (start + size_of piece) place front more (omega (arith, low, length-stream_of-cons piece front)))

pub piece-front : (place : ℕ) (front more : List Piece) → place < length (stream_of front) →
    is_piece_at (front ++ more) place ≡ is_piece_at front place
piece-front place front more low = places-front 0 place front more (omega (arith, low))
