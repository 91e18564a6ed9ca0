-- The extents of client frames in a stream: those that end by a place, or lie between two, and filters of lists.
use Rattle.std.proofs.Common.{◌≡◌, Bool, true, false, List, [], ◌∷◌, filter, All, refl, sym, ◌∙◌, ap, inl, inr, ℕ, ◌+◌}
use Rattle.std.proofs.Common.{◌<◌, ◌≤◌, ◌++◌, length, map, arith, suc, take}
use Rattle.std.specs.Prelude.{◌&&◌, ◌||◌}
use Rattle.std.proofs.lemmas.Bool.{cases_Bool, le-leb, lt-leb, cases_lt}
use Rattle.std.proofs.lemmas.List.Elements.{All-head, All-tail, All-nil, All-cons, All-weaker}
use Rattle.law_model.specs.Common.{Piece, idle, client, size_of, stream_of, frame_ends, cut, Extent, extents}
use Rattle.law_model.specs.Common.{is_carried}
use Rattle.law_model.proofs.StreamOfPiecesLaws.{length-stream_of-cons}
use Rattle.gfp_delineate.proofs.WholeAreaDeliveryLaws.{ended}

-- ---- Laws of filters.
pub and_false : (b : Bool) → (b && false) ≡ false
and_false true = refl
and_false false = refl

pub and_true : (b : Bool) → (b && true) ≡ b
and_true true = refl
and_true false = refl

pub or_true : (b : Bool) → (b || true) ≡ true
or_true true = refl
or_true false = refl

module _ {X : Type 0} where
  pub filter-skip : (p : X → Bool) (x : X) (xs : List X) → p x ≡ false → filter p (x ∷ xs) ≡ filter p xs
  filter-skip p x xs fails = rw fails refl

  pub filter-keep : (p : X → Bool) (x : X) (xs : List X) → p x ≡ true → filter p (x ∷ xs) ≡ x ∷ filter p xs
  filter-keep p x xs holds = rw holds refl

  pub filter-none : (p : X → Bool) (xs : List X) → All (λ x. p x ≡ false) xs → filter p xs ≡ []
  filter-none p [] fails = refl
  filter-none p (x ∷ xs) fails =
      filter-skip p x xs (All-head (λ x. p x ≡ false) x xs fails)
      ∙ filter-none p xs (All-tail (λ x. p x ≡ false) x xs fails)

  pub filter-same : (p q : X → Bool) (xs : List X) → All (λ x. p x ≡ q x) xs → filter p xs ≡ filter q xs
  filter-same p q [] same = refl
  filter-same p q (x ∷ xs) same =
      let first : p x ≡ q x = All-head (λ x. p x ≡ q x) x xs same in
      let rest : filter p xs ≡ filter q xs = filter-same p q xs (All-tail (λ x. p x ≡ q x) x xs same) in
      elim (cases_Bool (q x)) [
        | inl holds ↦ filter-keep p x xs (first ∙ holds) ∙ ap (λ l. x ∷ l) rest ∙ sym (filter-keep q x xs holds)
        | inr fails ↦ filter-skip p x xs (first ∙ fails) ∙ rest ∙ sym (filter-skip q x xs fails)
      ]

-- ---- The laws of the places of client frames.
-- the frames that end by a place
abbrev pub frames_to : ℕ → List Extent → List (List ℕ)
frames_to place all = map (λ (e : Extent). e.frame) (filter (is_carried place) all)

pub frames_ended : (place start : ℕ) (pieces : List Piece) →
    map (λ (end : ℕ × List ℕ). end.1) (ended place (frame_ends start pieces)) ≡ frames_to place (extents start pieces)
unfolding frame_ends extents
frames_ended place start [] = refl
frames_ended place start (idle ∷ pieces) = frames_ended place (start + size_of idle) pieces
frames_ended place start (client frame ∷ pieces) = elim (cases_lt place (start + size_of (client frame))) [
  | inl later ↦ rw (lt-leb (start + size_of (client frame)) place later)
      (frames_ended place (start + size_of (client frame)) pieces)
  | inr by ↦ rw (le-leb (start + size_of (client frame)) place by)
      (ap (λ l. frame ∷ l) (frames_ended place (start + size_of (client frame)) pieces))
]

pub no_octets : length (stream_of []) ≡ 0
unfolding cut
no_octets = refl

-- pieces in two parts
pub extents-append : (start : ℕ) (front more : List Piece) →
    extents start (front ++ more) ≡ extents start front ++ extents (start + length (stream_of front)) more
unfolding extents
extents-append start [] more = ap (λ n. extents n more)
    (let e : start ≡ start + length (stream_of []) = omega (arith, no_octets) in e)
extents-append start (idle ∷ front) more =
    extents-append (start + size_of idle) front more
    ∙ ap (λ n. extents (start + size_of idle) front ++ extents n more)
    (let e : start + size_of idle + length (stream_of front) ≡ start + length (stream_of (idle ∷ front)) =
    omega (arith, length-stream_of-cons idle front) in e)
extents-append start (client frame ∷ front) more =
    ap (λ l. record { from = start; to = start + size_of (client frame); frame = frame } ∷ l)
    (extents-append (start + size_of (client frame)) front more
    ∙ ap (λ n. extents (start + size_of (client frame)) front ++ extents n more)
    (let e : start + size_of (client frame) + length (stream_of front) ≡ start + length
    (stream_of (client frame ∷ front)) = omega (arith, length-stream_of-cons (client frame) front) in e))

-- a frame lies between two places
pub record IsBetween (low high : ℕ) (e : Extent) : Type 0 where
  pub lower : low ≤ e.from
  pub size : e.from < e.to
  pub upper : e.to ≤ high

IsBetween-wider : (low low2 high high2 : ℕ) (e : Extent) → low2 ≤ low → high ≤ high2 → IsBetween low high e →
    IsBetween low2 high2 e
IsBetween-wider low low2 high high2 e lower upper is =
    record { lower = omega (arith, lower, is.lower); size = is.size; upper = omega (arith, upper, is.upper) }

pub extents-between : (start : ℕ) (pieces : List Piece) →
    All (IsBetween start (start + length (stream_of pieces))) (extents start pieces)
unfolding extents
extents-between start [] = All-nil (IsBetween start (start + length (stream_of [])))
extents-between start (piece ∷ pieces) = by piece (extents-between (start + size_of piece) pieces)
  where
    wider : (piece : Piece) → (e : Extent) →
        IsBetween (start + size_of piece) (start + size_of piece + length (stream_of pieces)) e →
        IsBetween start (start + length (stream_of (piece ∷ pieces))) e
    wider piece e is = IsBetween-wider (start + size_of piece) start (start + size_of piece + length (stream_of pieces))
        (start + length (stream_of (piece ∷ pieces))) e (omega arith)
        (omega (arith, length-stream_of-cons piece pieces)) is

    by : (piece : Piece) → All (IsBetween (start + size_of piece) (start + size_of piece + length (stream_of pieces)))
        (extents (start + size_of piece) pieces) →
        All (IsBetween start (start + length (stream_of (piece ∷ pieces)))) (extents start (piece ∷ pieces))
    by idle all = All-weaker (IsBetween (start + size_of idle) (start + size_of idle + length (stream_of pieces)))
        (IsBetween start (start + length (stream_of (idle ∷ pieces)))) (wider idle)
        (extents (start + size_of idle) pieces) all
    by (client frame) all =
        All-cons (IsBetween start (start + length (stream_of (client frame ∷ pieces))))
        (record { from = start; to = start + size_of (client frame); frame = frame })
        (extents (start + size_of (client frame)) pieces)
        (record {
          lower = omega arith;
          size = omega arith;
          upper =
              omega (arith, length-stream_of-cons (client frame) pieces);
        })
        (All-weaker (IsBetween (start + size_of (client frame))
        (start + size_of (client frame) + length (stream_of pieces)))
        (IsBetween start (start + length (stream_of (client frame ∷ pieces)))) (wider (client frame))
        (extents (start + size_of (client frame)) pieces) all)

-- the client frames after the first one
unfoldable pub extents_after_first : ℕ → List Piece → List Extent
extents_after_first place [] = []
extents_after_first place (idle ∷ pieces) = extents_after_first (place + size_of idle) pieces
extents_after_first place (client frame ∷ pieces) = extents (place + size_of (client frame)) pieces

-- ---- The frames that end by a place are the first ones.
abbrev pub all_frames : List Extent → List (List ℕ)
all_frames all = map (λ (e : Extent). e.frame) all

pub frames_to-first : (place start : ℕ) (pieces : List Piece) → (count : ℕ) ×
    (frames_to place (extents start pieces) ≡ take count (all_frames (extents start pieces)))
unfolding extents
frames_to-first place start [] = (0, refl)
frames_to-first place start (idle ∷ pieces) = frames_to-first place (start + size_of idle) pieces
frames_to-first place start (client frame ∷ pieces) =
    let next : ℕ = start + size_of (client frame) in
    let e : Extent = record { from = start; to = next; frame = frame } in
    let rest : List Extent = extents next pieces in
    elim (cases_lt place next) [
      | inl later ↦ (
        0,
        ap all_frames (filter-skip (is_carried place) e rest (lt-leb next place later)
            ∙ filter-none (is_carried place) rest
            (All-weaker (IsBetween next (next + length (stream_of pieces))) (λ f. is_carried place f ≡ false)
            (λ f is. lt-leb f.to place (omega (arith, is.lower, is.size, later))) rest
            (extents-between next pieces))),
      )
      | inr by ↦ (
          let further = frames_to-first place next pieces in (
            suc further.0,
            ap all_frames (filter-keep (is_carried place) e rest (le-leb next place by))
                ∙ ap (λ l. frame ∷ l) further.1,
          ))
    ]
