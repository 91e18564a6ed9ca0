-- The stream of areas and of pieces, and which pieces are begun to reach a place of it.
use Rattle.std.proofs.Common.{◌≡◌, ℕ, ◌+◌, ◌*◌, ◌<◌, List, [], ◌∷◌, ◌++◌, length, map, take, drop, sum, All, refl, ◌∙◌}
use Rattle.std.proofs.Common.{ap, arith, flat_map, append-nil, length-append, zero, suc, ◌≤◌, subst, nat_le, true}
use Rattle.std.proofs.Common.{false, if◌then◌else◌, sym}
use Rattle.std.proofs.lemmas.List.{map-append, append_assoc}
use Rattle.std.proofs.lemmas.List.Concat.{flat_map-append}
use Rattle.std.proofs.lemmas.List.Elements.{All-nil, All-cons, All-head, All-tail, All-append, All-take, All-drop}
use Rattle.law_model.specs.Common.{scrambled_octets, core_header, Piece, area_of, cut, joined, with_header}
use Rattle.law_model.specs.Common.{areas_stream, stream_of, size_of, idle, client, size, Stream, next_by, reaching}
use Rattle.law_model.specs.Common.{reached, IsFewest}
use Rattle.law_model.proofs.CoreHeaderLaws.{length-core_header, core_header_below}
use Rattle.law_model.proofs.ScrambledBitAndAreaLaws.{scrambled_octets_below, sum-cons, scrambled_behind}
use Rattle.law_model.proofs.ScrambledBitAndAreaLaws.{map-length-scrambled_behind, length-scrambled_behind}
use Rattle.law_model.proofs.ScrambledBitAndAreaLaws.{scrambled_behind-append, length-scrambled_single}
use Rattle.law_model.proofs.ScrambledBitAndAreaLaws.{scrambled_behind-single}
use Rattle.std.proofs.lemmas.List.Sums.{sum_by-append}
use Rattle.std.proofs.lemmas.Bool.{leb-true, leb-false}
use Rattle.law_model.specs.source.Client.{begun}

-- ---- The laws of the stream of areas, and of that of pieces, whose areas they are.
-- ---- the stream of areas
pub length-with_header : (area : List ℕ) → length (with_header area) ≡ 4 + length area
length-with_header area = omega
    (arith, length-append (core_header (length area)) area, length-core_header (length area))

-- that behind octets of earlier areas
abbrev pub areas_behind : List ℕ → List (List ℕ) → List ℕ
areas_behind before areas = flat_map with_header (scrambled_behind before areas)

-- areas in two parts
pub areas_behind-append : (before : List ℕ) (areas more : List (List ℕ)) →
    areas_behind before (areas ++ more) ≡ areas_behind before areas ++ areas_behind (before ++ joined areas) more
areas_behind-append before areas more =
    ap (flat_map with_header) (scrambled_behind-append before areas more)
    ∙ flat_map-append with_header (scrambled_behind before areas) (scrambled_behind (before ++ joined areas) more)

pub areas_stream-append : (areas more : List (List ℕ)) →
    areas_stream (areas ++ more) ≡ areas_stream areas ++ areas_behind (joined areas) more
areas_stream-append areas more = areas_behind-append [] areas more

-- one area, and one more
areas_behind-single : (before area : List ℕ) →
    areas_behind before (area ∷ []) ≡ core_header (length area) ++ drop (length before)
    (scrambled_octets (before ++ area))
areas_behind-single before area =
    let octets : List ℕ = drop (length before) (scrambled_octets (before ++ area)) in
    ap (flat_map with_header) (scrambled_behind-single before area)
    ∙ append-nil (with_header octets)
    ∙ ap (λ n. core_header n ++ octets) (length-scrambled_single before area)

pub areas_stream-push : (areas : List (List ℕ)) (area : List ℕ) →
    areas_stream (areas ++ area ∷ []) ≡ areas_stream areas ++
    (core_header (length area) ++ drop (length (joined areas)) (scrambled_octets (joined areas ++ area)))
areas_stream-push areas area =
    areas_stream-append areas (area ∷ [])
    ∙ ap (λ l. areas_stream areas ++ l) (areas_behind-single (joined areas) area)

-- how many octets there are
length-headed : (areas : List (List ℕ)) →
    length (flat_map with_header areas) ≡ 4 * length areas + sum (map length areas)
length-headed [] = refl
length-headed (area ∷ areas) =
    omega (
      arith,
      length-append (with_header area) (flat_map with_header areas),
      length-with_header area,
      length-headed areas,
      sum-cons (length area) (map length areas),
    )

pub length-areas_behind : (before : List ℕ) (areas : List (List ℕ)) →
    length (areas_behind before areas) ≡ 4 * length areas + sum (map length areas)
length-areas_behind before areas =
    omega (
      arith,
      length-headed (scrambled_behind before areas),
      length-scrambled_behind before areas,
      ap sum (map-length-scrambled_behind before areas),
    )

-- each is an octet
cut_below : (sizes octets : List ℕ) → All (λ o. o < 256) octets → All (All (λ o. o < 256)) (cut sizes octets)
unfolding cut
cut_below [] octets h = All-nil (All (λ o. o < 256))
cut_below (size ∷ sizes) octets h =
    All-cons (All (λ o. o < 256)) (take size octets) (cut sizes (drop size octets))
    (All-take (λ o. o < 256) size octets h) (cut_below sizes (drop size octets) (All-drop (λ o. o < 256) size octets h))

headed_below : (areas : List (List ℕ)) → All (All (λ o. o < 256)) areas →
    All (λ o. o < 256) (flat_map with_header areas)
headed_below [] h = All-nil (λ o. o < 256)
headed_below (area ∷ areas) h =
    All-append (λ o. o < 256) (with_header area) (flat_map with_header areas)
    (All-append (λ o. o < 256) (core_header (length area)) area (core_header_below (length area))
    (All-head (All (λ o. o < 256)) area areas h))
    (headed_below areas (All-tail (All (λ o. o < 256)) area areas h))

areas_stream_below : (areas : List (List ℕ)) → All (λ o. o < 256) (areas_stream areas)
areas_stream_below areas =
    headed_below (scrambled_behind [] areas)
    (cut_below (map length areas) (scrambled_octets (joined areas)) (scrambled_octets_below (joined areas)))

-- ---- the stream of pieces of any kind, by the area of each
module _ {Kind : Type 0} (area_in : Kind → List ℕ) where
  pub pieces_behind-append : (before : List ℕ) (pieces more : List Kind) →
      areas_behind before (map area_in (pieces ++ more)) ≡ areas_behind before (map area_in pieces) ++ areas_behind
      (before ++ joined (map area_in pieces)) (map area_in more)
  pieces_behind-append before pieces more =
      ap (areas_behind before) (map-append area_in pieces more)
      ∙ areas_behind-append before (map area_in pieces) (map area_in more)

  sum_of_sizes : (pieces : List Kind) → sum (map (λ piece. 4 + length (area_in piece)) pieces)
      ≡ 4 * length (map area_in pieces) + sum (map length (map area_in pieces))
  sum_of_sizes [] = refl
  sum_of_sizes (piece ∷ pieces) =
      omega (
        arith,
        sum_of_sizes pieces,
        sum-cons (4 + length (area_in piece)) (map (λ piece. 4 + length (area_in piece)) pieces),
        sum-cons (length (area_in piece)) (map length (map area_in pieces)),
      )

  pub length-pieces_behind : (before : List ℕ) (pieces : List Kind) →
      length (areas_behind before (map area_in pieces)) ≡ sum (map (λ piece. 4 + length (area_in piece)) pieces)
  length-pieces_behind before pieces =
      omega (arith, length-areas_behind before (map area_in pieces), sum_of_sizes pieces)

-- ---- the stream of pieces of a session
abbrev pub stream_behind : List ℕ → List Piece → List ℕ
stream_behind before pieces = areas_behind before (map area_of pieces)

pub length-stream_behind : (before : List ℕ) (pieces : List Piece) →
    length (stream_behind before pieces) ≡ sum (map size_of pieces)
length-stream_behind before pieces = length-pieces_behind area_of before pieces

pub length-stream_of : (pieces : List Piece) → length (stream_of pieces) ≡ sum (map size_of pieces)
length-stream_of pieces = length-stream_behind [] pieces

-- pieces in two parts, and one more piece
pub stream_of-append : (pieces more : List Piece) →
    stream_of (pieces ++ more) ≡ stream_of pieces ++ stream_behind (joined (map area_of pieces)) more
stream_of-append pieces more = pieces_behind-append area_of [] pieces more

-- the octets of the first of several pieces
pub length-stream_of-cons : (piece : Piece) (pieces : List Piece) →
    length (stream_of (piece ∷ pieces)) ≡ size_of piece + length (stream_of pieces)
length-stream_of-cons piece pieces =
    omega (
      arith,
      length-stream_of (piece ∷ pieces),
      length-stream_of pieces,
      sum-cons (size_of piece) (map size_of pieces),
    )

-- each is an octet
pub stream_of_below : (pieces : List Piece) → All (λ o. o < 256) (stream_of pieces)
stream_of_below pieces = areas_stream_below (map area_of pieces)

-- ---- Reaching a place of the stream: which pieces are begun, that they are the fewest, and that a place can be reached in
-- parts.
-- ---- each piece has four octets at least
size-piece : (piece : Piece) → 4 ≤ size (piece ∷ [])
size-piece idle = omega arith
size-piece (client frame) = omega arith

size-more : (pieces : List Piece) (piece : Piece) → size pieces + 4 ≤ size (pieces ++ piece ∷ [])
size-more pieces piece = let sums = sum_by-append size_of pieces (piece ∷ []) in let last = size-piece piece in
    rw sums (omega arith)

pub next_by-size : (waiting : List (List ℕ)) (pieces : List Piece) →
    size pieces + 4 ≤ size (next_by waiting pieces).pieces
next_by-size [] pieces = size-more pieces idle
next_by-size (frame ∷ waiting) pieces = size-more pieces (client frame)

-- ---- the place is reached
pub reaching-reaches : (steps place : ℕ) (stream : Stream) → place ≤ size stream.pieces + steps →
    place ≤ size (reaching steps place stream).pieces
unfolding reaching
reaching-reaches zero place stream h = omega arith
reaching-reaches (suc steps) place stream h =
    elim (nat_le place (size stream.pieces))
    as (λ b. nat_le place (size stream.pieces) ≡ b →
    place ≤ size (if b then stream else reaching steps place (next_by stream.waiting stream.pieces)).pieces) [
      | true ↦ λ e. leb-true place (size stream.pieces) e
      | false ↦ λ e.
          let more = next_by-size stream.waiting stream.pieces in
          reaching-reaches steps place (next_by stream.waiting stream.pieces) (omega arith)
    ] refl

-- where it is reached, no piece is begun
pub reaching-here : (steps place : ℕ) (stream : Stream) → place ≤ size stream.pieces →
    reaching steps place stream ≡ stream
unfolding reaching
reaching-here zero place stream h = refl
reaching-here (suc steps) place stream h =
    elim (nat_le place (size stream.pieces))
    as (λ b. nat_le place (size stream.pieces) ≡ b →
    (if b then stream else reaching steps place (next_by stream.waiting stream.pieces)) ≡ stream) [
      | true ↦ λ e. refl
      | false ↦ λ e. let short = leb-false place (size stream.pieces) e in absurd (omega arith)
    ] refl

-- more steps than are needed change nothing
reaching-enough : (k m place : ℕ) (stream : Stream) → place ≤ size stream.pieces + k → k ≤ m →
    reaching m place stream ≡ reaching k place stream
unfolding reaching
reaching-enough zero m place stream h more = reaching-here m place stream (omega arith)
reaching-enough (suc k) zero place stream h more = absurd (omega arith)
reaching-enough (suc k) (suc m) place stream h more =
    elim (nat_le place (size stream.pieces)) as (λ b. nat_le place (size stream.pieces) ≡ b →
    (if b then stream else reaching m place (next_by stream.waiting stream.pieces)) ≡
    (if b then stream else reaching k place (next_by stream.waiting stream.pieces))) [
      | true ↦ λ e. refl
      | false ↦ λ e.
          let further = next_by-size stream.waiting stream.pieces in
          reaching-enough k m place (next_by stream.waiting stream.pieces) (omega arith) (omega arith)
    ] refl

-- where it isn't, the next piece is
reached-next_at : (p : ℕ) (stream : Stream) → size stream.pieces < suc p →
    reached (suc p) stream ≡ reached (suc p) (next_by stream.waiting stream.pieces)
unfolding reaching
reached-next_at p stream short =
    let further = next_by-size stream.waiting stream.pieces in
    elim (nat_le (suc p) (size stream.pieces)) as (λ b. nat_le (suc p) (size stream.pieces) ≡ b →
    (if b then stream else reaching p (suc p) (next_by stream.waiting stream.pieces)) ≡ reaching (suc p) (suc p)
    (next_by stream.waiting stream.pieces)) [
      | true ↦ λ e. let long = leb-true (suc p) (size stream.pieces) e in absurd (omega arith)
      | false ↦ λ e. sym (reaching-enough p (suc p) (suc p) (next_by stream.waiting stream.pieces) (omega arith)
          (omega arith))
    ] refl

pub reached-next : (place : ℕ) (stream : Stream) → size stream.pieces < place →
    reached place stream ≡ reached place (next_by stream.waiting stream.pieces)
reached-next zero stream short = absurd (omega arith)
reached-next (suc p) stream short = reached-next_at p stream short

-- a place is reached in parts
reached-join_by : (steps sooner later : ℕ) (stream : Stream) → sooner ≤ later →
    reached later (reaching steps sooner stream) ≡ reached later stream
unfolding reaching
reached-join_by zero sooner later stream h = refl
reached-join_by (suc steps) sooner later stream h =
    elim (nat_le sooner (size stream.pieces)) as (λ b. nat_le sooner (size stream.pieces) ≡ b →
    reached later (if b then stream else reaching steps sooner (next_by stream.waiting stream.pieces))
    ≡ reached later stream) [
      | true ↦ λ e. refl
      | false ↦ λ e.
          let short = leb-false sooner (size stream.pieces) e in
          reached-join_by steps sooner later (next_by stream.waiting stream.pieces) h
          ∙ sym (reached-next later stream (omega arith))
    ] refl

pub reached-join : (sooner later : ℕ) (stream : Stream) → sooner ≤ later →
    reached later (reached sooner stream) ≡ reached later stream
reached-join sooner later stream h = reached-join_by sooner sooner later stream h

-- ---- the pieces are the fewest
piece_of : List (List ℕ) → Piece
piece_of [] = idle
piece_of (frame ∷ waiting) = client frame

next_by-piece : (waiting : List (List ℕ)) (pieces : List Piece) →
    (next_by waiting pieces).pieces ≡ pieces ++ piece_of waiting ∷ []
unfolding piece_of
next_by-piece [] pieces = refl
next_by-piece (frame ∷ waiting) pieces = refl

-- so many pieces more, none of which was needed less
pub record Follows (before : List Piece) (place : ℕ) (after : List Piece) : Type 0 where
  pub more : List Piece
  pub follow : after ≡ before ++ more
  pub fewest : (n : ℕ) → n < length more → size (before ++ take n more) < place

fewest_next : (before : List Piece) (piece : Piece) (more : List Piece) (place : ℕ) → size before < place →
    ((n : ℕ) → n < length more → size (before ++ piece ∷ [] ++ take n more) < place) → (n : ℕ) →
    n < length (piece ∷ more) → size (before ++ take n (piece ∷ more)) < place
fewest_next before piece more place short rest zero h = let e : before ++ [] ≡ before = append-nil before in rw e short
fewest_next before piece more place short rest (suc n) h = let e = append_assoc before (piece ∷ []) (take n more) in
    rw e at (rest n (omega arith))

follows-next : (before : List Piece) (piece : Piece) (place : ℕ) (after : List Piece) → size before < place →
    Follows (before ++ piece ∷ []) place after → Follows before place after
follows-next before piece place after short follows = record {
  more = piece ∷ follows.more;
  follow = follows.follow ∙ append_assoc before (piece ∷ []) follows.more;
  fewest = fewest_next before piece follows.more place short follows.fewest;
}

pub reaching-follows : (steps place : ℕ) (stream : Stream) →
    Follows stream.pieces place (reaching steps place stream).pieces
unfolding reaching
reaching-follows zero place stream =
    record { more = []; follow = sym (append-nil stream.pieces); fewest = λ n h. absurd (omega arith) }
reaching-follows (suc steps) place stream =
    elim (nat_le place (size stream.pieces)) as (λ b. nat_le place (size stream.pieces) ≡ b →
    Follows stream.pieces place (if b then stream else reaching steps place
    (next_by stream.waiting stream.pieces)).pieces) [
      | true ↦ λ e. record { more = []; follow = sym (append-nil stream.pieces); fewest = λ n h. absurd (omega arith) }
      | false ↦ λ e.
          follows-next stream.pieces (piece_of stream.waiting) place
          (reaching steps place (next_by stream.waiting stream.pieces)).pieces
          (leb-false place (size stream.pieces) e)
          (subst (λ pieces. Follows pieces place (reaching steps place (next_by stream.waiting stream.pieces)).pieces)
          (next_by-piece stream.waiting stream.pieces)
          (reaching-follows steps place (next_by stream.waiting stream.pieces)))
    ] refl

pub reached-fewest : (place : ℕ) (stream : Stream) → IsFewest stream.pieces place (reached place stream).pieces
reached-fewest place stream =
    let follows = reaching-follows place place stream in
    record {
      more = follows.more;
      follow = follows.follow;
      reach = reaching-reaches place place stream (omega arith);
      fewest = follows.fewest;
    }

-- ---- they are so many more
reaching-begun : (steps place : ℕ) (stream : Stream) → (n : ℕ) × (reaching steps place stream ≡ begun n stream)
unfolding reaching begun
reaching-begun zero place stream = (0, refl)
reaching-begun (suc steps) place stream =
    let rest = reaching-begun steps place (next_by stream.waiting stream.pieces) in
    elim (nat_le place (size stream.pieces))
    as (λ b. (n : ℕ) × ((if b then stream else reaching steps place (next_by stream.waiting stream.pieces))
    ≡ begun n stream)) [
      | true ↦ (0, refl)
      | false ↦ (suc rest.0, rest.1)
    ]

pub reached-begun : (place : ℕ) (stream : Stream) → (n : ℕ) × (reached place stream ≡ begun n stream)
reached-begun place stream = reaching-begun place place stream
