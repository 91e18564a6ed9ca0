-- Idle frames one after another, and the pieces that come next in a stream.
use Rattle.std.proofs.Common.{◌≡◌, ℕ, zero, suc, ◌+◌, ◌-◌, ◌*◌, ◌/◌, ◌%◌, List, [], ◌∷◌, ◌++◌, length, take, refl, sym}
use Rattle.std.proofs.Common.{◌∙◌, ap, ap₂, arith, append_assoc, length-append, append-nil, take_at, ◌≤◌, map, drop}
use Rattle.std.proofs.Common.{replicate}
use Rattle.law_model.specs.Common.{octets_of, scrambled_octets, core_header, areas_stream, cut, Piece, idle, client}
use Rattle.law_model.specs.Common.{area_of, joined, stream_of, Stream}
use Rattle.law_model.proofs.CoreHeaderLaws.{length-core_header, idle_header, core_header-idle, idles, idles-suc}
use Rattle.std.proofs.lemmas.List.{drop_all, take_all, take-append-le}
use Rattle.law_model.specs.frames.Piece.{opening}
use Rattle.law_model.proofs.StreamOfPiecesLaws.{stream_behind, stream_of-append}
use Rattle.law_model.specs.source.Client.{begun}
use Rattle.gfp_fill.specs.FilledStream.{next_pieces, unsent}

-- ---- Idle frames, one after another.
-- one more in front
idles-front : (n : ℕ) → idles (suc n) ≡ core_header 0 ++ idles n
idles-front n = ap (λ l. l ++ idles n) (append-nil (core_header 0))

length-idles : (n : ℕ) → length (idles n) ≡ 4 * n
length-idles zero = refl
length-idles (suc n) = omega (
  arith,
  ap length (idles-front n),
  length-append (core_header 0) (idles n),
  length-core_header 0,
  length-idles n,
)

-- those of a and b more
idles-add : (a b : ℕ) → idles (a + b) ≡ idles a ++ idles b
idles-add zero b = let e : 0 + b ≡ b = omega arith in ap idles e
idles-add (suc a) b =
    (let e : suc a + b ≡ suc (a + b) = omega arith in ap idles e)
    ∙ idles-front (a + b)
    ∙ ap (λ l. core_header 0 ++ l) (idles-add a b)
    ∙ sym (append_assoc (core_header 0) (idles a) (idles b))
    ∙ ap (λ l. l ++ idles b) (sym (idles-front a))

-- sixteen of them, octet by octet
abbrev pub repeated : ℕ → List ℕ
repeated zero = []
repeated (suc n) = idle_header ++ repeated n

idles-repeated : (n : ℕ) → idles n ≡ repeated n
idles-repeated zero = refl
idles-repeated (suc n) = idles-suc n ∙ ap (λ l. idle_header ++ l) (idles-repeated n)

-- sixteen more, and fewer than sixteen more
pub idles-sixteen : (i : ℕ) (octets : List ℕ) → octets ≡ idles (16 * i) → octets ++ repeated 16 ≡ idles (16 * (i + 1))
idles-sixteen i octets are =
    ap₂ (λ a b. a ++ b) are (sym (idles-repeated 16))
    ∙ sym (idles-add (16 * i) 16)
    ∙ (let e : 16 * i + 16 ≡ 16 * (i + 1) = omega arith in ap idles e)

pub idles-rest : (n : ℕ) (octets : List ℕ) → octets ≡ idles (16 * (n / 16)) →
    octets ++ take (4 * (n % 16)) (repeated 16) ≡ idles n
idles-rest n octets are =
    let rest : ℕ = n % 16 in
    let split : 16 ≡ rest + (16 - rest) = omega arith in
    let first : take (4 * rest) (repeated 16) ≡ idles rest =
    ap (take (4 * rest)) (sym (idles-repeated 16) ∙ ap idles split ∙ idles-add rest (16 - rest))
    ∙ take_at (idles rest) (idles (16 - rest)) (4 * rest) (length-idles rest) in
    ap₂ (λ a b. a ++ b) are first
    ∙ sym (idles-add (16 * (n / 16)) rest)
    ∙ (let e : 16 * (n / 16) + rest ≡ n = omega arith in ap idles e)

-- the two idles at the start, and no octets of areas
pub two_idles : areas_stream ([] ∷ [] ∷ []) ≡ (idle_header ++ idle_header) ++ scrambled_octets []
unfolding cut octets_of
two_idles = idles-front 1 ∙ ap (λ l. core_header 0 ++ l) (idles-front 0 ∙ append-nil (core_header 0))
    ∙ ap (λ l. l ++ l) core_header-idle

-- ---- Laws of the pieces that come next: how they follow one another, and what their stream keeps.
-- where none waits there are idles
pub next_pieces-nil : (n : ℕ) → next_pieces n [] ≡ replicate n idle
next_pieces-nil zero = refl
next_pieces-nil (suc n) = ap (λ k. replicate k idle) (let e : suc n - 0 ≡ suc n = omega arith in e)

pub next_pieces-zero : (waiting : List (List ℕ)) → next_pieces 0 waiting ≡ []
next_pieces-zero waiting = ap (λ k. replicate k idle) (let e : 0 - length waiting ≡ 0 = omega arith in e)

-- the first frame that waits comes next
next_pieces-cons : (n : ℕ) (frame : List ℕ) (waiting : List (List ℕ)) →
    next_pieces (suc n) (frame ∷ waiting) ≡ client frame ∷ next_pieces n waiting
next_pieces-cons n frame waiting =
    ap (λ k. client frame ∷ map client (take n waiting) ++ replicate k idle)
    (let e : suc n - suc (length waiting) ≡ n - length waiting = omega arith in e)

-- all frames that wait, and then so many idles
next_pieces-all : (waiting : List (List ℕ)) (idles : ℕ) →
    next_pieces (length waiting + idles) waiting ≡ map client waiting ++ replicate idles idle
next_pieces-all waiting idles =
    let front = take_all (length waiting + idles) waiting (omega arith) in
    let rest : length waiting + idles - length waiting ≡ idles = omega arith in
    cc

-- the stream in which all frames wait from the start
pub opening-next_pieces : (frames : List (List ℕ)) (idles : ℕ) →
    opening frames idles ≡ (idle ∷ idle ∷ []) ++ next_pieces (length frames + idles) frames
opening-next_pieces frames idles = ap (λ ps. idle ∷ idle ∷ ps) (sym (next_pieces-all frames idles))

-- more pieces leave the octets of those before as they are
pub take-stream_of : (n : ℕ) (pieces more : List Piece) → n ≤ length (stream_of pieces) →
    take n (stream_of (pieces ++ more)) ≡ take n (stream_of pieces)
take-stream_of n pieces more within =
    ap (λ octets. take n octets) (stream_of-append pieces more)
    ∙ take-append-le n (stream_of pieces) (stream_behind (joined (map area_of pieces)) more) within

-- pieces that are begun one by one
begun_of : (n : ℕ) (waiting : List (List ℕ)) (pieces : List Piece) →
    begun n (record { pieces = pieces; waiting = waiting })
    ≡ record { pieces = pieces ++ next_pieces n waiting; waiting = drop n waiting }
unfolding begun
begun_of zero waiting pieces =
    let none : pieces ++ next_pieces 0 waiting ≡ pieces = ap (λ ps. pieces ++ ps) (next_pieces-zero waiting)
    ∙ append-nil pieces in
    ap (λ ps. record { pieces = ps; waiting = waiting }) (sym none)
begun_of (suc n) [] pieces =
    let one : (pieces ++ idle ∷ []) ++ next_pieces n [] ≡ pieces ++ next_pieces (suc n) [] =
    append_assoc pieces (idle ∷ []) (next_pieces n [])
    ∙ ap (λ ps. pieces ++ ps) (ap (λ ps. idle ∷ ps) (next_pieces-nil n) ∙ sym (next_pieces-nil (suc n))) in
    begun_of n [] (pieces ++ idle ∷ [])
    ∙ ap₂ (λ ps ws. record { pieces = ps; waiting = ws }) one
    (drop_all n [] (omega arith) ∙ sym (drop_all (suc n) [] (omega arith)))
begun_of (suc n) (frame ∷ waiting) pieces =
    let one : (pieces ++ client frame ∷ []) ++ next_pieces n waiting ≡ pieces ++ next_pieces (suc n) (frame ∷ waiting) =
    append_assoc pieces (client frame ∷ []) (next_pieces n waiting)
    ∙ ap (λ ps. pieces ++ ps) (sym (next_pieces-cons n frame waiting)) in
    begun_of n waiting (pieces ++ client frame ∷ []) ∙ ap (λ ps. record { pieces = ps; waiting = drop n waiting }) one

pub begun-next_pieces : (n : ℕ) (stream : Stream) →
    begun n stream ≡ record { pieces = stream.pieces ++ next_pieces n stream.waiting; waiting = drop n stream.waiting }
begun-next_pieces n stream = begun_of n stream.waiting stream.pieces

-- where all frames wait from the start, they are those of the opening
pub begun-opening : (frames : List (List ℕ)) (idles : ℕ) →
    begun (length frames + idles) (unsent frames) ≡ record { pieces = opening frames idles; waiting = [] }
begun-opening frames idles =
    begun-next_pieces (length frames + idles) (unsent frames)
    ∙ ap₂ (λ ps ws. record { pieces = ps; waiting = ws }) (sym (opening-next_pieces frames idles))
    (drop_all (length frames + idles) frames (omega arith))
