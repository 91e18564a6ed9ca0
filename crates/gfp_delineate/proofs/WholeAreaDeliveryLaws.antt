-- The areas that are whole in a front of a stream, and the frames that are delivered of it.
use Rattle.std.proofs.Common.{◌≡◌, ℕ, zero, suc, ◌+◌, ◌-◌, ◌<◌, ◌≤◌, List, [], ◌∷◌, ◌++◌, length, take, drop, All, inl}
use Rattle.std.proofs.Common.{inr, Some, None, refl, sym, ◌∙◌, ap, ap₂, arith, append_assoc, length-append}
use Rattle.std.proofs.Common.{length-take, nat_le, if◌then◌else◌, flat_map, take_at, drop_at, append-nil, le-leb, true}
use Rattle.std.proofs.Common.{false, map, filter, replicate, subst, le-ltb}
use Rattle.std.proofs.lemmas.List.Elements.{All-nil, All-cons, All-head, All-tail, All-append, All-map, All-replicate}
use Rattle.std.proofs.lemmas.List.Elements.{All-weaker, filter-append}
use Rattle.std.proofs.lemmas.Bool.{lt-leb, cases_lt}
use Rattle.law_model.specs.Common.{scrambled_octets, core_header, IsPli, cut, with_header, scrambled_areas, head}
use Rattle.law_model.specs.Common.{header_at, area_then, no_area, follow_with, descrambled_areas, bits, number_behind}
use Rattle.law_model.specs.Common.{add_front, divide, hec_of, type_header, type_fault, Piece, idle, client, area_of}
use Rattle.law_model.specs.Common.{stream_of, size_of, frame_ends, frames_by, Followed, run_then, runs, delineate}
use Rattle.law_model.specs.Common.{outcome_of, outcomes_after, outcomes_after_with, run_outcomes, delivered}
use Rattle.law_model.proofs.CoreHeaderLaws.{length-core_header, head-core_header}
use Rattle.law_model.proofs.ScrambledBitAndAreaLaws.{scrambled_behind, scrambled_behind-append}
use Rattle.law_model.proofs.ScrambledBitAndAreaLaws.{scrambled_behind-single, length-scrambled_single}
use Rattle.law_model.proofs.ScrambledBitAndAreaLaws.{descrambled_areas-scrambled_areas, map-length-scrambled_areas}
use Rattle.law_model.proofs.StreamOfPiecesLaws.{length-with_header}
use Rattle.gfp_delineate.proofs.HuntAndFollowLaws.{header-window, follow-few, follow-part, follow-whole, search-few}
use Rattle.gfp_delineate.proofs.HuntAndFollowLaws.{search-short, search-confirmed, delineate_from, delineate-open}
use Rattle.std.proofs.lemmas.List.{map-append}
use Rattle.std.proofs.lemmas.List.Concat.{flat_map-append}
use Rattle.law_model.specs.frames.Piece.{opening}
use Rattle.law_model.specs.frames.Delivery.{frame_in}
use Rattle.gfp_delineate.specs.Receiver.{IsClientFrame}

-- ---- The areas in a front of a stream of whole pieces.
-- the front of a list that has its first part whole
pub take-append : (count : ℕ) (xs ys : List ℕ) → length xs ≤ count →
    take count (xs ++ ys) ≡ xs ++ take (count - length xs) ys
take-append count [] ys longer = let all : count ≡ count - 0 = omega arith in ap (λ count. take count ys) all
take-append zero (x ∷ xs) ys longer = absurd (omega arith)
take-append (suc count) (x ∷ xs) ys longer =
    let less : count - length xs ≡ suc count - suc (length xs) = omega arith in
    ap (λ front. x ∷ front) (take-append count xs ys (omega arith) ∙ ap (λ count. xs ++ take count ys) less)

-- a header in front
pub header_at-core : (pli : ℕ) (more : List ℕ) → IsPli pli → header_at (core_header pli ++ more) ≡ Some pli
header_at-core pli more fits = header-window head (core_header pli) more (length-core_header pli)
    ∙ head-core_header pli fits

-- the areas that are whole where a number of octets has come
unfoldable pub whole_areas : ℕ → List (List ℕ) → List (List ℕ)
whole_areas count [] = []
whole_areas count (area ∷ more) =
    if nat_le (4 + length area) count then area ∷ whole_areas (count - (4 + length area)) more else []

-- a front that ends in the first piece
follow-part_front : (count : ℕ) (area more : List ℕ) → IsPli (length area) → count < 4 + length area →
    follow_with head (take count (with_header area ++ more)) ≡ no_area None
follow-part_front count area more fits short =
    let octets : List ℕ = take count (with_header area ++ more) in
    let size : length octets ≤ count = omega (arith, length-take count (with_header area ++ more)) in
    elim (cases_lt count 4) [
      | inl few ↦ follow-few head octets (omega (arith, size, few))
      | inr long ↦ (
          let four : length (core_header (length area)) ≡ 4 = length-core_header (length area) in
          let front : octets ≡ core_header (length area) ++ take (count - 4) (area ++ more) =
          ap (take count) (append_assoc (core_header (length area)) area more)
          ∙ take-append count (core_header (length area)) (area ++ more) (omega arith)
          ∙ ap (λ n. core_header (length area) ++ take (count - n) (area ++ more)) four in
          follow-part head octets (length area)
          (ap header_at front ∙ header_at-core (length area) (take (count - 4) (area ++ more)) fits)
          (omega (arith, size, short)))
    ]

-- a front that has the first piece whole
follow-whole_front : (count : ℕ) (area more : List ℕ) → IsPli (length area) → 4 + length area ≤ count →
    follow_with head (take count (with_header area ++ more)) ≡ area_then area
    (follow_with head (take (count - (4 + length area)) more))
follow-whole_front count area more fits long =
    let header : List ℕ = core_header (length area) in
    let rest : List ℕ = take (count - (4 + length area)) more in
    let four : length header ≡ 4 = length-core_header (length area) in
    let size : length (with_header area) ≡ 4 + length area = length-with_header area in
    let both : length (header ++ area) ≡ 4 + length area = omega (arith, length-append header area, four) in
    let enough : 4 + length area ≤ length (header ++ (area ++ rest)) =
    omega (arith, length-append header (area ++ rest), length-append area rest, four) in
    ap (follow_with head)
    (take-append count (with_header area) more (omega arith) ∙ ap (λ n. with_header area ++ take (count - n) more) size
    ∙ append_assoc header area rest)
    ∙ follow-whole head (header ++ (area ++ rest)) (length area) (header_at-core (length area) (area ++ rest) fits)
    enough
    ∙ ap₂ (λ first octets. area_then first (follow_with head octets))
    (ap (take (length area)) (drop_at header (area ++ rest) 4 four) ∙ take_at area rest (length area) refl)
    (ap (drop (4 + length area)) (sym (append_assoc header area rest))
    ∙ drop_at (header ++ area) rest (4 + length area) both)

-- in a front of pieces
take-none : (count : ℕ) → length (take {A = ℕ} count []) < 4
take-none count = omega (arith, length-take {A = ℕ} count [])

-- a run of pieces has the areas that are whole, and is open
pub follow-front : (count : ℕ) (pieces : List (List ℕ)) → All (λ area. IsPli (length area)) pieces →
    follow_with head (take count (flat_map with_header pieces))
    ≡ record { areas = whole_areas count pieces; after = None }
unfolding whole_areas
follow-front count [] all = follow-few head (take count []) (take-none count)
follow-front count (area ∷ pieces) all =
    let fits = All-head (λ area. IsPli (length area)) area pieces all in
    elim (cases_lt count (4 + length area)) [
      | inl short ↦ rw (lt-leb (4 + length area) count short)
          (follow-part_front count area (flat_map with_header pieces) fits short)
      | inr long ↦ rw (le-leb (4 + length area) count long)
          (follow-whole_front count area (flat_map with_header pieces) fits long
          ∙ ap (area_then area) (follow-front (count - (4 + length area)) pieces
          (All-tail (λ area. IsPli (length area)) area pieces all)))
    ]

-- whole areas are among the areas
pub All-whole_areas : (P : List ℕ → Type 0) (count : ℕ) (pieces : List (List ℕ)) → All P pieces →
    All P (whole_areas count pieces)
unfolding whole_areas
All-whole_areas P count [] all = All-nil P
All-whole_areas P count (area ∷ pieces) all = elim (cases_lt count (4 + length area)) [
  | inl short ↦ rw (lt-leb (4 + length area) count short) (All-nil P)
  | inr long ↦ rw (le-leb (4 + length area) count long)
      (All-cons P area (whole_areas (count - (4 + length area)) pieces) (All-head P area pieces all)
      (All-whole_areas P (count - (4 + length area)) pieces (All-tail P area pieces all)))
]

-- areas that are scrambled as one list are whole at the same places
pub scrambled_behind-cons : (before area : List ℕ) (pieces : List (List ℕ)) →
    scrambled_behind before (area ∷ pieces) ≡ drop (length before)
    (scrambled_octets (before ++ area)) ∷ scrambled_behind (before ++ area) pieces
scrambled_behind-cons before area pieces =
    scrambled_behind-append before (area ∷ []) pieces
    ∙ ap₂ ◌++◌ (scrambled_behind-single before area) (ap (λ l. scrambled_behind (before ++ l) pieces) (append-nil area))

pub whole_areas-scrambled_behind : (count : ℕ) (before : List ℕ) (pieces : List (List ℕ)) →
    whole_areas count (scrambled_behind before pieces) ≡ scrambled_behind before (whole_areas count pieces)
unfolding whole_areas cut
whole_areas-scrambled_behind count before [] = refl
whole_areas-scrambled_behind count before (area ∷ pieces) =
    let size : length (drop (length before) (scrambled_octets (before ++ area))) ≡ length area =
    length-scrambled_single before area in
    let first : List ℕ = drop (length before) (scrambled_octets (before ++ area)) in
    ap (whole_areas count) (scrambled_behind-cons before area pieces)
    ∙ ap (λ n. if nat_le (4 + n) count then first ∷ whole_areas (count - (4 + n))
    (scrambled_behind (before ++ area) pieces) else []) size
    ∙ elim (cases_lt count (4 + length area))
    as (λ _. (if nat_le (4 + length area) count then first ∷ whole_areas (count - (4 + length area))
    (scrambled_behind (before ++ area) pieces) else []) ≡ scrambled_behind before
    (if nat_le (4 + length area) count then area ∷ whole_areas (count - (4 + length area)) pieces else [])) [
      | inl short ↦ rw (lt-leb (4 + length area) count short) refl
      | inr long ↦ rw (le-leb (4 + length area) count long)
          (ap (λ l. first ∷ l) (whole_areas-scrambled_behind (count - (4 + length area)) (before ++ area) pieces)
          ∙ sym (scrambled_behind-cons before area (whole_areas (count - (4 + length area)) pieces)))
    ]

-- and descrambled they are what they were
pub descrambled-whole_areas : (count : ℕ) (pieces : List (List ℕ)) → All (All (λ o. o < 256)) pieces →
    descrambled_areas (whole_areas count (scrambled_areas pieces)) ≡ whole_areas count pieces
descrambled-whole_areas count pieces below =
    ap descrambled_areas (whole_areas-scrambled_behind count [] pieces)
    ∙ descrambled_areas-scrambled_areas (whole_areas count pieces)
    (All-whole_areas (All (λ o. o < 256)) count pieces below)

-- ---- The frames that are delivered of each front of a stream are those whose piece ends in it.
-- ---- the run in a front of a stream that begins with two idles
idle_fits : IsPli 0
idle_fits = (omega arith, inl refl)

-- where the two are whole, a run begins with the second
pub runs-idles : (place : ℕ) (pieces : List (List ℕ)) → 8 ≤ place → All (λ area. IsPli (length area)) pieces →
    runs true (take place (flat_map with_header ([] ∷ [] ∷ pieces)))
    ≡ record { settled = true; areas = whole_areas (place - 4) ([] ∷ pieces) } ∷ []
runs-idles place pieces long all =
    let header : List ℕ = core_header 0 in
    let four : length header ≡ 4 = length-core_header 0 in
    let rest : List ℕ = take (place - 4) (flat_map with_header ([] ∷ pieces)) in
    let more : List ℕ = take (place - 4 - 4) (flat_map with_header pieces) in
    let fits : All (λ area. IsPli (length area)) ([] ∷ pieces) =
    All-cons (λ area. IsPli (length area)) [] pieces idle_fits all in
    let front : take place (flat_map with_header ([] ∷ [] ∷ pieces)) ≡ header ++ rest =
    take-idle place (flat_map with_header ([] ∷ pieces)) (omega (arith, long)) in
    let next : rest ≡ header ++ more = take-idle (place - 4) (flat_map with_header pieces) (omega (arith, long)) in
    let after : drop (4 + 0) (header ++ rest) ≡ rest = drop_at header rest 4 four in
    ap (λ octets. runs true octets) front
    ∙ ap (λ found. found.runs)
    (delineate-open head head true (header ++ rest)
    ∙ ap (delineate_from head head)
    (search-confirmed head false (header ++ rest) 0 0 (header_at-core 0 rest idle_fits)
    (ap header_at (after ∙ next) ∙ header_at-core 0 more idle_fits)
    ∙ ap (λ octets. Some (false, octets)) after)
    ∙ ap (λ (found : Followed). run_then (record { settled = true; areas = found.areas }) found.after (delineate false))
    (follow-front (place - 4) ([] ∷ pieces) fits))
  where
    take-idle : (count : ℕ) (octets : List ℕ) → 4 ≤ count →
        take count (with_header [] ++ octets) ≡ core_header 0 ++ take (count - 4) octets
    take-idle count octets long =
        let header : List ℕ = core_header 0 in
        let four : length header ≡ 4 = length-core_header 0 in
        ap (λ l. take count (l ++ octets)) (append-nil header)
        ∙ take-append count header octets (omega arith)
        ∙ ap (λ n. header ++ take (count - n) octets) four

-- where they are not, there is none
pub runs-few : (place : ℕ) (octets : List ℕ) → place < 8 → runs true (take place (with_header [] ++ octets)) ≡ []
runs-few place octets few = ap (λ found. found.runs)
    (delineate-open head head true (take place (with_header [] ++ octets))
    ∙ ap (delineate_from head head) (elim (cases_lt place 4) [
      | inl none ↦ search-few head false (take place (with_header [] ++ octets))
          (omega (arith, length-take place (with_header [] ++ octets), none))
      | inr long ↦ (
          let header : List ℕ = core_header 0 in
          let four : length header ≡ 4 = length-core_header 0 in
          let front : take place (with_header [] ++ octets) ≡ header ++ take (place - length header) octets =
          ap (λ l. take place (l ++ octets)) (append-nil header)
          ∙ take-append place header octets (omega (arith, four, long)) in
          search-short head false (take place (with_header [] ++ octets)) 0
          (ap header_at front ∙ header_at-core 0 (take (place - length header) octets) idle_fits)
          (omega (arith, length-take place (with_header [] ++ octets), few)))
    ]))

-- ---- the frames in whole areas
pub type_header_right : type_fault type_header ≡ None
unfolding type_fault hec_of bits divide add_front number_behind
type_header_right = refl

-- a piece that may be sent to a receiver of frames with at most a number of octets
abbrev pub IsSendable : ℕ → Piece → Type 0
IsSendable longest idle = Unit {0}
IsSendable longest (client frame) = IsClientFrame longest frame

pub IsPli-area_of : (longest : ℕ) (piece : Piece) → longest ≤ 65531 → IsSendable longest piece →
    IsPli (length (area_of piece))
IsPli-area_of longest idle fits sendable = idle_fits
IsPli-area_of longest (client frame) fits sendable =
    let size : length (type_header ++ frame) ≡ 4 + length frame = length-append type_header frame in
    (omega (arith, size, sendable.size), inr (omega (arith, size)))

type_header_below : All (λ o. o < 256) type_header
type_header_below =
    let below : ℕ → Type 0 = λ o. o < 256 in
    All-cons below 0 (1 ∷ 16 ∷ 33 ∷ []) (omega arith)
    (All-cons below 1 (16 ∷ 33 ∷ []) (omega arith)
    (All-cons below 16 (33 ∷ []) (omega arith) (All-cons below 33 [] (omega arith) (All-nil below))))

pub area_of_below : (longest : ℕ) (piece : Piece) → IsSendable longest piece → All (λ o. o < 256) (area_of piece)
area_of_below longest idle sendable = All-nil (λ o. o < 256)
area_of_below longest (client frame) sendable =
    All-append (λ o. o < 256) type_header frame type_header_below sendable.octets

-- the frame in the area of a piece
abbrev frame_at : ℕ → Piece → List (ℕ × List ℕ)
frame_at start idle = []
frame_at start (client frame) = (start + size_of (client frame), frame) ∷ []

frame_ends-cons : (start : ℕ) (piece : Piece) (pieces : List Piece) →
    frame_ends start (piece ∷ pieces) ≡ frame_at start piece ++ frame_ends (start + size_of piece) pieces
unfolding frame_ends
frame_ends-cons start idle pieces = refl
frame_ends-cons start (client frame) pieces = refl

frames-area_of : (longest before start : ℕ) (piece : Piece) → IsSendable longest piece →
    flat_map frame_in (outcome_of longest true before (area_of piece)) ≡ map (λ (end : ℕ × List ℕ). end.1)
    (frame_at start piece)
frames-area_of longest before start idle sendable = refl
frames-area_of longest before start (client frame) sendable =
    let size : length (type_header ++ frame) ≡ 4 + length frame = length-append type_header frame in
    let short : length (type_header ++ frame) ≤ longest + 4 = omega (arith, size, sendable.size) in
    rw (le-ltb (longest + 4) (length (type_header ++ frame)) short, type_header_right) refl

-- the frames whose piece ends by a place
abbrev pub ended : ℕ → List (ℕ × List ℕ) → List (ℕ × List ℕ)
ended place ends = filter (λ end. nat_le end.0 place) ends

-- none does among pieces that begin where no piece can end by the place
frames-past : (place start : ℕ) (pieces : List Piece) → place < start + 4 → ended place (frame_ends start pieces) ≡ []
unfolding frame_ends
frames-past place start [] past = refl
frames-past place start (idle ∷ pieces) past = frames-past place (start + size_of idle) pieces (omega arith)
frames-past place start (client frame ∷ pieces) past =
    let later : nat_le (start + size_of (client frame)) place ≡ false =
    lt-leb (start + size_of (client frame)) place (omega arith) in
    rw later (frames-past place (start + size_of (client frame)) pieces (omega arith))

-- the first piece ends after the place, or by it
ended-none : (place start : ℕ) (piece : Piece) → place < start + size_of piece → ended place (frame_at start piece) ≡ []
ended-none place start idle later = refl
ended-none place start (client frame) later = rw (lt-leb (start + size_of (client frame)) place later) refl

ended-all : (place start : ℕ) (piece : Piece) → start + size_of piece ≤ place →
    ended place (frame_at start piece) ≡ frame_at start piece
ended-all place start idle by = refl
ended-all place start (client frame) by = rw (le-leb (start + size_of (client frame)) place by) refl

ended-cons : (place start : ℕ) (piece : Piece) (pieces : List Piece) →
    ended place (frame_ends start (piece ∷ pieces)) ≡ ended place (frame_at start piece) ++ ended place
    (frame_ends (start + size_of piece) pieces)
ended-cons place start piece pieces =
    ap (ended place) (frame_ends-cons start piece pieces)
    ∙ filter-append (λ (end : ℕ × List ℕ). nat_le end.0 place) (frame_at start piece)
    (frame_ends (start + size_of piece) pieces)

-- the frames in the areas that are whole are those whose piece ends by the place
pub frames-whole : (longest before count start : ℕ) (pieces : List Piece) → All (IsSendable longest) pieces →
    flat_map frame_in (outcomes_after longest true before (whole_areas count (map area_of pieces))) ≡ map (λ end. end.1)
    (ended (start + count) (frame_ends start pieces))
unfolding frame_ends whole_areas outcomes_after_with
frames-whole longest before count start [] all = refl
frames-whole longest before count start (piece ∷ pieces) all = elim (cases_lt count (size_of piece)) [
  | inl short ↦ rw (lt-leb (4 + length (area_of piece)) count short)
      (ap (map (λ end. end.1)) (sym (ended-cons (start + count) start piece pieces
      ∙ ap₂ ◌++◌ (ended-none (start + count) start piece (omega (arith, short)))
      (frames-past (start + count) (start + size_of piece) pieces (omega (arith, short))))))
  | inr whole ↦ (
      let next : ℕ = start + size_of piece in
      let left : ℕ = count - size_of piece in
      let same : next + left ≡ start + count = omega (arith, whole) in
      rw (le-leb (4 + length (area_of piece)) count whole)
      (flat_map-append frame_in (outcome_of longest true before (area_of piece))
      (outcomes_after longest true (before + length (area_of piece)) (whole_areas left (map area_of pieces)))
      ∙ ap₂ ◌++◌ (frames-area_of longest before start piece (All-head (IsSendable longest) piece pieces all))
      (frames-whole longest (before + length (area_of piece)) left next pieces
      (All-tail (IsSendable longest) piece pieces all))
      ∙ sym (map-append (λ (end : ℕ × List ℕ). end.1) (frame_at start piece)
      (ended (next + left) (frame_ends next pieces)))
      ∙ ap (λ place. map (λ end. end.1) (frame_at start piece ++ ended place (frame_ends next pieces))) same
      ∙ ap (λ first. map (λ end. end.1) (first ++ ended (start + count) (frame_ends next pieces)))
      (sym (ended-all (start + count) start piece (omega (arith, whole))))
      ∙ ap (map (λ end. end.1)) (sym (ended-cons (start + count) start piece pieces))))
]

-- ---- the two ends
scrambled-idles : (pieces : List Piece) →
    stream_of (idle ∷ idle ∷ pieces) ≡ flat_map with_header ([] ∷ [] ∷ scrambled_areas (map area_of pieces))
unfolding cut
scrambled-idles pieces = refl

scrambled-idle : (pieces : List Piece) →
    [] ∷ scrambled_areas (map area_of pieces) ≡ scrambled_areas (map area_of (idle ∷ pieces))
unfolding cut
scrambled-idle pieces = refl

-- the areas of pieces have lengths that headers may say
pub fits-scrambled : (sizes : List (List ℕ)) (octets : List (List ℕ)) → map length octets ≡ map length sizes →
    All (λ area. IsPli (length area)) sizes → All (λ area. IsPli (length area)) octets
fits-scrambled [] [] same all = All-nil (λ area. IsPli (length area))
fits-scrambled [] (area ∷ octets) same all = absurd cc
fits-scrambled (size ∷ sizes) [] same all = absurd cc
fits-scrambled (size ∷ sizes) (area ∷ octets) same all =
    All-cons (λ area. IsPli (length area)) area octets
    (let first : length size ≡ length area =
    cc in subst IsPli first (All-head (λ area. IsPli (length area)) size sizes all))
    (fits-scrambled sizes octets (let rest : map length octets ≡ map length sizes = cc in rest)
    (All-tail (λ area. IsPli (length area)) size sizes all))

pub delivered-whole : (longest place : ℕ) (pieces : List Piece) → longest ≤ 65531 → All (IsSendable longest) pieces →
    8 ≤ place →
    delivered longest (take place (stream_of (idle ∷ idle ∷ pieces))) ≡ frames_by place (idle ∷ idle ∷ pieces)
unfolding frame_ends
delivered-whole longest place pieces fits all long =
    let sent : List (List ℕ) = map area_of pieces in
    let plis : All (λ area. IsPli (length area)) sent =
    All-map (λ area. IsPli (length area)) area_of pieces
    (All-weaker (IsSendable longest) (λ piece. IsPli (length (area_of piece)))
    (λ piece sendable. IsPli-area_of longest piece fits sendable) pieces all) in
    let below : All (All (λ o. o < 256)) sent =
    All-map (All (λ o. o < 256)) area_of pieces
    (All-weaker (IsSendable longest) (λ piece. All (λ o. o < 256) (area_of piece))
    (λ piece sendable. area_of_below longest piece sendable) pieces all) in
    let come : List (List ℕ) = whole_areas (place - 4) ([] ∷ scrambled_areas sent) in
    let plain : descrambled_areas come ≡ whole_areas (place - 4) (map area_of (idle ∷ pieces)) =
    ap (λ l. descrambled_areas (whole_areas (place - 4) l)) (scrambled-idle pieces)
    ∙ descrambled-whole_areas (place - 4) (map area_of (idle ∷ pieces))
    (All-cons (All (λ o. o < 256)) [] sent (All-nil (λ o. o < 256)) below) in
    let same : 0 + size_of idle + (place - 4) ≡ place = omega (arith, long) in
    ap (λ octets. delivered longest (take place octets)) (scrambled-idles pieces)
    ∙ ap (λ found. flat_map frame_in (flat_map (run_outcomes longest) found))
    (runs-idles place (scrambled_areas sent) long
    (fits-scrambled sent (scrambled_areas sent) (map-length-scrambled_areas sent) plis))
    ∙ ap (flat_map frame_in) (append-nil (run_outcomes longest (record { settled = true; areas = come })))
    ∙ ap (λ areas. flat_map frame_in (outcomes_after longest true 0 areas)) plain
    ∙ frames-whole longest 0 (place - 4) (0 + size_of idle) (idle ∷ pieces)
    (All-cons (IsSendable longest) idle pieces tt all)
    ∙ ap (λ place. map (λ end. end.1) (ended place (frame_ends (0 + size_of idle) (idle ∷ pieces)))) same

pub delivered-few : (longest place : ℕ) (pieces : List Piece) → place < 8 →
    delivered longest (take place (stream_of (idle ∷ idle ∷ pieces))) ≡ frames_by place (idle ∷ idle ∷ pieces)
unfolding frame_ends
delivered-few longest place pieces few =
    ap (λ octets. delivered longest (take place octets)) (scrambled-idles pieces)
    ∙ ap (λ found. flat_map frame_in (flat_map (run_outcomes longest) found))
    (runs-few place (flat_map with_header ([] ∷ scrambled_areas (map area_of pieces))) few)
    ∙ ap (map (λ end. end.1)) (sym (frames-past place (0 + size_of idle) (idle ∷ pieces) (omega (arith, few))))

pub delivered-stream : (longest place : ℕ) (pieces : List Piece) → longest ≤ 65531 → All (IsSendable longest) pieces →
    delivered longest (take place (stream_of (idle ∷ idle ∷ pieces))) ≡ frames_by place (idle ∷ idle ∷ pieces)
delivered-stream longest place pieces fits all =
    elim (cases_lt place 8) [
      | inl few ↦ delivered-few longest place pieces few
      | inr long ↦ delivered-whole longest
          place pieces fits all long
    ]

pub delivered-opening : (longest : ℕ) (frames : List (List ℕ)) (idles place : ℕ) → longest ≤ 65531 →
    All (IsClientFrame longest) frames →
    delivered longest (take place (stream_of (opening frames idles))) ≡ frames_by place (opening frames idles)
delivered-opening longest frames idles place fits all =
    let clients : All (IsSendable longest) (map client frames) = All-map (IsSendable longest) client frames all in
    delivered-stream longest place (map client frames ++ replicate idles idle) fits
    (All-append (IsSendable longest) (map client frames) (replicate idles idle) clients
    (All-replicate (IsSendable longest) idles idle tt))
