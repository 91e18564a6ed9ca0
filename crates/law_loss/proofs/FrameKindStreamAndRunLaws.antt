-- Streams of any kind of frames, and that a run of their areas tells what is read of the contents that end in it.
use Rattle.std.proofs.Common.{◌≡◌, ℕ, ◌+◌, ◌<◌, List, [], ◌∷◌, ◌++◌, length, map, sum, All, refl, ap, ap₂, arith, inl}
use Rattle.std.proofs.Common.{inr, length-append, ◌-◌, ◌≤◌, true, false, drop, sym, ◌∙◌, append_assoc, flat_map}
use Rattle.std.proofs.Common.{append-nil, drop-drop, drop_at, le-leb, take, Some, None}
use Rattle.std.proofs.lemmas.List.{length-map}
use Rattle.std.proofs.lemmas.List.Elements.{All-nil, All-append, All-map, All-weaker, All-cons, All-head, All-tail}
use Rattle.law_model.specs.Common.{IsPli, type_header, Piece, idle, client, area_of, joined, stream_of}
use Rattle.law_model.specs.Common.{scrambled_octets, descrambled_octets, cut, area_outcomes, outcomes_after_with}
use Rattle.law_model.specs.Common.{descrambled_areas, with_header, size_of, scrambled_areas, Confirmed, hunt, areas}
use Rattle.law_model.specs.Common.{after_run, runs, run_outcomes_with, extents}
use Rattle.law_model.proofs.StreamOfPiecesLaws.{areas_behind, pieces_behind-append, length-areas_behind}
use Rattle.law_loss.specs.FrameKind.{Kind, IsKind, area_in, stream_in, IsPieceIn, IsContent, told_in}
use Rattle.std.proofs.lemmas.List.Concat.{flat_map-append}
use Rattle.law_model.proofs.ScrambledBitAndAreaLaws.{length-scrambled_octets, scrambled_octets-append}
use Rattle.law_model.proofs.ScrambledBitAndAreaLaws.{descrambled_octets-scrambled_octets, descrambled_octets-behind}
use Rattle.law_model.proofs.ScrambledBitAndAreaLaws.{cut-joined, scrambled_behind, descrambled_behind}
use Rattle.law_model.proofs.ScrambledBitAndAreaLaws.{map-length-scrambled_behind, joined-scrambled_behind}
use Rattle.law_model.proofs.ScrambledBitAndAreaLaws.{length-scrambled_single, descrambled_areas-append}
use Rattle.law_model.proofs.ScrambledBitAndAreaLaws.{descrambled_behind-single, length-descrambled_single}
use Rattle.law_model.proofs.ScrambledBitAndAreaLaws.{joined_below, map-length-scrambled_areas}
use Rattle.gfp_delineate.proofs.WholeAreaDeliveryLaws.{scrambled_behind-cons, whole_areas, follow-front}
use Rattle.gfp_delineate.proofs.WholeAreaDeliveryLaws.{All-whole_areas}
use Rattle.gfp_delineate.proofs.WholeAreaDeliveryLaws.{whole_areas-scrambled_behind, descrambled-whole_areas}
use Rattle.std.proofs.lemmas.Bool.{lt-leb, cases_lt}
use Rattle.law_model.proofs.ListLaws.{drop-part}
use Rattle.gfp_delineate.proofs.WholeAreaDeliveryLaws.{fits-scrambled, runs-few, runs-idles}
use Rattle.law_loss.proofs.SegmentHuntAndRunLaws.{runs_after, runs-confirmed, runs-none}
use Rattle.law_loss.proofs.ClientFrameExtentLaws.{frames_to, extents_after_first}

-- ---- Streams of one kind: their parts, how many octets they have, and which areas of them may be sent.
pub idle_fits : IsPli 0
idle_fits = (omega arith, inl refl)

module _ {X Y : Type 0} (kind : Kind X Y) (sound : IsKind kind) where
  -- the stream of pieces behind octets of earlier areas
  abbrev pub stream_behind : List ℕ → List Piece → List ℕ
  stream_behind before pieces = areas_behind before (map (area_in kind) pieces)

  pub stream-append : (front more : List Piece) → stream_in kind (front ++ more)
      ≡ stream_in kind front ++ stream_behind (joined (map (area_in kind) front)) more
  stream-append front more = pieces_behind-append (area_in kind) [] front more

  -- an area is as long as that of an Ethernet frame with the same content
  pub length-area : (piece : Piece) → length (area_in kind piece) ≡ length (area_of piece)
  length-area idle = refl
  length-area (client content) =
      omega (arith, length-append kind.header content, length-append type_header content, sound.four)

  sizes-same : (pieces : List Piece) → map length (map (area_in kind) pieces) ≡ map length (map area_of pieces)
  sizes-same [] = refl
  sizes-same (piece ∷ pieces) = ap₂ ◌∷◌ (length-area piece) (sizes-same pieces)

  pub length-stream : (pieces : List Piece) → length (stream_in kind pieces) ≡ length (stream_of pieces)
  length-stream pieces =
      omega (
        arith,
        length-areas_behind [] (map (area_in kind) pieces),
        length-areas_behind [] (map area_of pieces),
        ap sum (sizes-same pieces),
        length-map pieces (area_in kind),
        length-map pieces area_of,
      )

  -- areas that may be sent
  IsPli-area : (piece : Piece) → IsPieceIn kind piece → IsPli (length (area_in kind piece))
  IsPli-area idle is = idle_fits
  IsPli-area (client content) is =
      let size : length (kind.header ++ content) ≡ 4 + length content =
      omega (arith, length-append kind.header content, sound.four) in
      (omega (arith, size, is.most), inr (omega (arith, size)))

  area_below : (piece : Piece) → IsPieceIn kind piece → All (λ o. o < 256) (area_in kind piece)
  area_below idle is = All-nil (λ o. o < 256)
  area_below (client content) is = All-append (λ o. o < 256) kind.header content sound.octets is.octets

  pub plis : (pieces : List Piece) → All (IsPieceIn kind) pieces →
      All (λ area. IsPli (length area)) (map (area_in kind) pieces)
  plis pieces all =
      All-map (λ area. IsPli (length area)) (area_in kind) pieces
      (All-weaker (IsPieceIn kind) (λ piece. IsPli (length (area_in kind piece))) IsPli-area pieces all)

  pub areas_below : (pieces : List Piece) → All (IsPieceIn kind) pieces →
      All (All (λ o. o < 256)) (map (area_in kind) pieces)
  areas_below pieces all =
      All-map (All (λ o. o < 256)) (area_in kind) pieces
      (All-weaker (IsPieceIn kind) (λ piece. All (λ o. o < 256) (area_in kind piece)) area_below pieces all)

-- ---- What comes of a run that begins in the middle of a stream: its first client frame settles the descrambler.
-- ---- the octets after a part of a scrambled list that has six octets at least are descrambled to what they were,
-- whatever
-- was before that part
module _ (before area rest : List ℕ) (six : 6 ≤ length area) (below : All (λ o. o < 256) ((before ++ area) ++ rest))
  where
    abbrev pub part : List ℕ
    part = drop (length before) (scrambled_octets (before ++ area))

    abbrev pub after : List ℕ
    after = drop (length (before ++ area)) (scrambled_octets ((before ++ area) ++ rest))

    whole_list : scrambled_octets ((before ++ area) ++ rest) ≡ scrambled_octets before ++ (part ++ after)
    whole_list =
        scrambled_octets-append (before ++ area) rest
        ∙ ap (λ l. l ++ after) (scrambled_octets-append before area)
        ∙ append_assoc (scrambled_octets before) part after

    pub descrambled-rest : drop (length part) (descrambled_octets (part ++ after)) ≡ rest
    descrambled-rest =
        let size : length part ≡ length area = length-scrambled_single before area in
        let more : ℕ = length area - 6 in
        let place : 6 + more ≡ length part = omega (arith, size, six) in
        let first : length (scrambled_octets before) + 6 ≡ length before + 6 =
        omega (arith, length-scrambled_octets before) in
        let both : length before + 6 + more ≡ length (before ++ area) = omega (arith, length-append before area, six) in
        let list : List ℕ = (before ++ area) ++ rest in
        ap (λ n. drop n (descrambled_octets (part ++ after))) (sym place)
        ∙ sym (drop-drop more 6 (descrambled_octets (part ++ after)))
        ∙ ap (drop more)
        (sym (descrambled_octets-behind (scrambled_octets before) (part ++ after))
        ∙ ap (λ l. drop (length (scrambled_octets before) + 6) (descrambled_octets l)) (sym whole_list)
        ∙ ap (drop (length (scrambled_octets before) + 6)) (descrambled_octets-scrambled_octets list below)
        ∙ ap (λ n. drop n list) first)
        ∙ drop-drop more (length before + 6) list
        ∙ ap (λ n. drop n list) both
        ∙ drop_at (before ++ area) rest (length (before ++ area)) refl

-- ---- the same of areas
pub descrambled_behind-settled : (before area : List ℕ) (rest : List (List ℕ)) → 6 ≤ length area →
    All (λ o. o < 256) (before ++ area) → All (All (λ o. o < 256)) rest →
    descrambled_behind (drop (length before) (scrambled_octets (before ++ area)))
    (scrambled_behind (before ++ area) rest) ≡ rest
descrambled_behind-settled before area rest six first below =
    let first_part : List ℕ = drop (length before) (scrambled_octets (before ++ area)) in
    let all : All (λ o. o < 256) ((before ++ area) ++ joined rest) =
    All-append (λ o. o < 256) (before ++ area) (joined rest) first (joined_below rest below) in
    ap₂ (λ sizes octets. cut sizes (drop (length first_part) (descrambled_octets (first_part ++ octets))))
    (map-length-scrambled_behind (before ++ area) rest) (joined-scrambled_behind (before ++ area) rest)
    ∙ ap (cut (map length rest)) (descrambled-rest before area (joined rest) six all ∙ sym (append-nil (joined rest)))
    ∙ cut-joined rest []

-- ---- what is told of a run of any kind of frames
module _ {X Y : Type 0} (kind : Kind X Y) (sound : IsKind kind) where
  outcome-settled : (before other : ℕ) (area : List ℕ) → 6 ≤ before →
      area_outcomes kind.outcome false before area ≡ area_outcomes kind.outcome true other area
  outcome-settled before other [] six = refl
  outcome-settled before other (o ∷ area) six = rw (le-leb 6 before six) refl

  outcomes-settled : (before other : ℕ) (areas : List (List ℕ)) → 6 ≤ before →
      outcomes_after_with kind.outcome false before areas ≡ outcomes_after_with kind.outcome true other areas
  unfolding outcomes_after_with
  outcomes-settled before other [] six = refl
  outcomes-settled before other (area ∷ areas) six =
      ap₂ ◌++◌ (outcome-settled before other area six)
      (outcomes-settled (before + length area) (other + length area) areas (omega (arith, six)))

  -- an area that begins a run which isn't settled
  outcome-first : (area : List ℕ) → 0 < length area →
      area_outcomes kind.outcome false 0 area ≡ kind.outcome false area ∷ []
  outcome-first [] some = absurd (omega arith)
  outcome-first (o ∷ area) some = refl

  told-first : (area : List ℕ) → 0 < length area →
      flat_map kind.told (area_outcomes kind.outcome false 0 area) ≡ []
  told-first area some =
      ap (flat_map kind.told) (outcome-first area some) ∙ append-nil (kind.told (kind.outcome false area))
      ∙ sound.unsettled area

  pub outcomes-idle : (before : List ℕ) (areas : List (List ℕ)) →
      outcomes_after_with kind.outcome false 0 (descrambled_areas (scrambled_behind before ([] ∷ areas)))
      ≡ outcomes_after_with kind.outcome false 0 (descrambled_areas (scrambled_behind before areas))
  unfolding cut outcomes_after_with
  outcomes-idle before areas = refl

  told-two : (first : List ℕ) (rest : List (List ℕ)) → 6 ≤ length first →
      flat_map kind.told (outcomes_after_with kind.outcome false 0 (first ∷ rest))
      ≡ flat_map kind.told (outcomes_after_with kind.outcome true 0 rest)
  unfolding outcomes_after_with
  told-two first rest six =
      flat_map-append kind.told (area_outcomes kind.outcome false 0 first)
      (outcomes_after_with kind.outcome false (0 + length first) rest)
      ∙ ap₂ ◌++◌ (told-first first (omega (arith, six)))
      (ap (flat_map kind.told) (outcomes-settled (0 + length first) 0 rest (omega (arith, six))))

  pub told-settled : (before area : List ℕ) (rest : List (List ℕ)) → 6 ≤ length area →
      All (λ o. o < 256) (before ++ area) → All (All (λ o. o < 256)) rest →
      flat_map kind.told (outcomes_after_with kind.outcome false 0
      (descrambled_areas (scrambled_behind before (area ∷ rest))))
      ≡ flat_map kind.told (outcomes_after_with kind.outcome true 0 rest)
  told-settled before area rest six first below =
      let first_part : List ℕ = drop (length before) (scrambled_octets (before ++ area)) in
      let plain : List ℕ = drop (length {A = ℕ} []) (descrambled_octets ([] ++ first_part)) in
      let size : length plain ≡ length area = length-descrambled_single [] first_part
      ∙ length-scrambled_single before area in
      let areas : descrambled_areas (scrambled_behind before (area ∷ rest)) ≡ plain ∷ rest =
      ap descrambled_areas (scrambled_behind-cons before area rest)
      ∙ descrambled_areas-append (first_part ∷ []) (scrambled_behind (before ++ area) rest)
      ∙ ap₂ ◌++◌ (descrambled_behind-single [] first_part)
      (ap (λ l. descrambled_behind l (scrambled_behind (before ++ area) rest)) (append-nil first_part)
      ∙ descrambled_behind-settled before area rest six first below) in
      ap (λ l. flat_map kind.told (outcomes_after_with kind.outcome false 0 l)) areas
      ∙ told-two plain rest (omega (arith, size, six))

-- ---- What is told of a run is what is read of the contents whose piece ends in it.
-- ---- places
-- nothing ends by a place at which the first of pieces isn't whole
frames_to-none : (place start : ℕ) (pieces : List Piece) → place < start + 4 →
    frames_to place (extents start pieces) ≡ []
unfolding extents
frames_to-none place start [] few = refl
frames_to-none place start (idle ∷ pieces) few = frames_to-none place (start + size_of idle) pieces (omega arith)
frames_to-none place start (client content ∷ pieces) few =
    rw (lt-leb (start + size_of (client content)) place (omega arith))
    (frames_to-none place (start + size_of (client content)) pieces (omega arith))

frames_after_first-none : (place start : ℕ) (pieces : List Piece) → place < start + 4 →
    frames_to place (extents_after_first start pieces) ≡ []
unfolding extents_after_first
frames_after_first-none place start [] few = refl
frames_after_first-none place start (idle ∷ pieces) few =
    frames_after_first-none place (start + size_of idle) pieces (omega arith)
frames_after_first-none place start (client content ∷ pieces) few =
    frames_to-none place (start + size_of (client content)) pieces (omega arith)

-- ---- the first area is whole, or not
whole-short : (count : ℕ) (area : List ℕ) (more : List (List ℕ)) → count < 4 + length area →
    whole_areas count (area ∷ more) ≡ []
unfolding whole_areas
whole-short count area more short = rw (lt-leb (4 + length area) count short) refl

whole-long : (count : ℕ) (area : List ℕ) (more : List (List ℕ)) → 4 + length area ≤ count →
    whole_areas count (area ∷ more) ≡ area ∷ whole_areas (count - (4 + length area)) more
unfolding whole_areas
whole-long count area more long = rw (le-leb (4 + length area) count long) refl

module _ {X Y : Type 0} (kind : Kind X Y) (sound : IsKind kind) where
  -- ---- a settled run
  outcome-some : (before : ℕ) (area : List ℕ) → 0 < length area →
      area_outcomes kind.outcome true before area ≡ kind.outcome true area ∷ []
  outcome-some before [] some = absurd (omega arith)
  outcome-some before (o ∷ area) some = refl

  told-content : (before : ℕ) (content : List ℕ) → IsContent kind content →
      flat_map kind.told (area_outcomes kind.outcome true before (kind.header ++ content)) ≡ kind.read content
  told-content before content is =
      ap (flat_map kind.told) (outcome-some before (kind.header ++ content)
      (omega (arith, length-append kind.header content, sound.four)))
      ∙ append-nil (kind.told (kind.outcome true (kind.header ++ content))) ∙ is.comes

  told-none : (before : ℕ) → flat_map kind.told (outcomes_after_with kind.outcome true before []) ≡ []
  unfolding outcomes_after_with
  told-none before = refl

  told-idle : (before : ℕ) (more : List (List ℕ)) →
      flat_map kind.told (outcomes_after_with kind.outcome true before ([] ∷ more))
      ≡ flat_map kind.told (outcomes_after_with kind.outcome true (before + 0) more)
  unfolding outcomes_after_with
  told-idle before more = refl

  told-cons : (before : ℕ) (area : List ℕ) (more : List (List ℕ)) →
      flat_map kind.told (outcomes_after_with kind.outcome true before (area ∷ more))
      ≡ flat_map kind.told (area_outcomes kind.outcome true before area)
      ++ flat_map kind.told (outcomes_after_with kind.outcome true (before + length area) more)
  unfolding outcomes_after_with
  told-cons before area more =
      flat_map-append kind.told (area_outcomes kind.outcome true before area)
      (outcomes_after_with kind.outcome true (before + length area) more)

  -- what ends by a place, of pieces of which the first ends by it
  to-cons : (place start : ℕ) (content : List ℕ) (pieces : List Piece) → start + size_of (client content) ≤ place →
      flat_map kind.read (frames_to place (extents start (client content ∷ pieces)))
      ≡ kind.read content ++ flat_map kind.read (frames_to place (extents (start + size_of (client content)) pieces))
  unfolding extents
  to-cons place start content pieces by = rw (le-leb (start + size_of (client content)) place by) refl

  to-none : (place start : ℕ) (content : List ℕ) (pieces : List Piece) → place < start + size_of (client content) →
      frames_to place (extents start (client content ∷ pieces)) ≡ []
  unfolding extents
  to-none place start content pieces short =
      rw (lt-leb (start + size_of (client content)) place short)
      (frames_to-none place (start + size_of (client content)) pieces (omega (arith, short)))

  pub told-whole : (before count start : ℕ) (pieces : List Piece) → All (IsPieceIn kind) pieces →
      flat_map kind.told (outcomes_after_with kind.outcome true before (whole_areas count (map (area_in kind) pieces)))
      ≡ flat_map kind.read (frames_to (start + count) (extents start pieces))
  unfolding whole_areas extents
  told-whole before count start [] all = told-none before
  told-whole before count start (idle ∷ pieces) all =
      let rest : List (List ℕ) = map (area_in kind) pieces in
      elim (cases_lt count 4) [
        | inl short ↦ ap (λ l. flat_map kind.told (outcomes_after_with kind.outcome true before l))
            (whole-short count [] rest (omega (arith, short)))
            ∙ told-none before
            ∙ sym (ap (flat_map kind.read) (frames_to-none (start + count) (start + 4) pieces (omega (arith, short))))
        | inr long ↦ ap (λ l. flat_map kind.told (outcomes_after_with kind.outcome true before l))
            (whole-long count [] rest (omega (arith, long)))
            ∙ told-idle before (whole_areas (count - 4) rest)
            ∙ told-whole (before + 0) (count - 4) (start + 4) pieces (All-tail (IsPieceIn kind) idle pieces all)
            ∙ ap (λ place. flat_map kind.read (frames_to place (extents (start + 4) pieces)))
            (let e : start + 4 + (count - 4) ≡ start + count = omega (arith, long) in e)
      ]
  told-whole before count start (client content ∷ pieces) all =
      let area : List ℕ = kind.header ++ content in
      let rest : List (List ℕ) = map (area_in kind) pieces in
      let size : ℕ = size_of (client content) in
      let long : 4 + length area ≡ size =
      ap (λ n. 4 + n) (length-area kind sound (client content)) in
      elim (cases_lt count size) [
        | inl short ↦ ap (λ l. flat_map kind.told (outcomes_after_with kind.outcome true before l))
            (whole-short count area rest (omega (arith, short, long)))
            ∙ told-none before
            ∙ sym (ap (flat_map kind.read) (to-none (start + count) start content pieces (omega (arith, short))))
        | inr whole ↦ ap (λ l. flat_map kind.told (outcomes_after_with kind.outcome true before l))
            (whole-long count area rest (omega (arith, whole, long)))
            ∙ told-cons before area (whole_areas (count - (4 + length area)) rest)
            ∙ ap₂ ◌++◌ (told-content before content (All-head (IsPieceIn kind) (client content) pieces all))
            (told-whole (before + length area) (count - (4 + length area)) (start + size) pieces
            (All-tail (IsPieceIn kind) (client content) pieces all)
            ∙ ap (λ place. flat_map kind.read (frames_to place (extents (start + size) pieces)))
            (let e : start + size + (count - (4 + length area)) ≡ start + count = omega (arith, whole, long) in e))
            ∙ sym (to-cons (start + count) start content pieces (omega (arith, whole)))
      ]

  -- ---- a run that isn't settled
  run-none : (before : List ℕ) → flat_map kind.told (outcomes_after_with kind.outcome false 0
      (descrambled_areas (scrambled_behind before []))) ≡ []
  unfolding cut outcomes_after_with
  run-none before = refl

  run-idle : (before : List ℕ) (more : List (List ℕ)) →
      flat_map kind.told (outcomes_after_with kind.outcome false 0
      (descrambled_areas (scrambled_behind before ([] ∷ more))))
      ≡ flat_map kind.told (outcomes_after_with kind.outcome false 0
      (descrambled_areas (scrambled_behind before more)))
  run-idle before more = ap (flat_map kind.told) (outcomes-idle kind sound before more)

  -- what is told of areas behind octets of earlier ones
  abbrev told_behind : List ℕ → List (List ℕ) → List Y
  told_behind before areas =
      flat_map kind.told (outcomes_after_with kind.outcome false 0 (descrambled_areas (scrambled_behind before areas)))

  told-run : (before : List ℕ) (count start : ℕ) (pieces : List Piece) → All (λ o. o < 256) before →
      All (IsPieceIn kind) pieces →
      told_behind before (whole_areas count (map (area_in kind) pieces))
      ≡ flat_map kind.read (frames_to (start + count) (extents_after_first start pieces))
  unfolding whole_areas extents_after_first
  told-run before count start [] first all = run-none before
  told-run before count start (idle ∷ pieces) first all =
      let rest : List (List ℕ) = map (area_in kind) pieces in
      elim (cases_lt count 4) [
        | inl short ↦ ap (told_behind before) (whole-short count [] rest (omega (arith, short)))
            ∙ run-none before
            ∙ sym (ap (flat_map kind.read)
            (frames_after_first-none (start + count) (start + 4) pieces (omega (arith, short))))
        | inr long ↦ ap (told_behind before) (whole-long count [] rest (omega (arith, long)))
            ∙ run-idle before (whole_areas (count - 4) rest)
            ∙ told-run before (count - 4) (start + 4) pieces first (All-tail (IsPieceIn kind) idle pieces all)
            ∙ ap (λ place. flat_map kind.read (frames_to place (extents_after_first (start + 4) pieces)))
            (let e : start + 4 + (count - 4) ≡ start + count = omega (arith, long) in e)
      ]
  told-run before count start (client content ∷ pieces) first all =
      let area : List ℕ = kind.header ++ content in
      let rest : List (List ℕ) = map (area_in kind) pieces in
      let size : ℕ = size_of (client content) in
      let left : ℕ = count - (4 + length area) in
      let long : 4 + length area ≡ size = ap (λ n. 4 + n) (length-area kind sound (client content)) in
      let is : IsContent kind content = All-head (IsPieceIn kind) (client content) pieces all in
      let more : All (IsPieceIn kind) pieces = All-tail (IsPieceIn kind) (client content) pieces all in
      elim (cases_lt count size) [
        | inl short ↦ ap (told_behind before) (whole-short count area rest (omega (arith, short, long)))
            ∙ run-none before
            ∙ sym (ap (flat_map kind.read)
            (frames_to-none (start + count) (start + size) pieces (omega (arith, short))))
        | inr whole ↦ ap (told_behind before) (whole-long count area rest (omega (arith, whole, long)))
            ∙ told-settled kind sound before area (whole_areas left rest)
            (omega (arith, length-append kind.header content, sound.four, is.least))
            (All-append (λ o. o < 256) before area first
            (All-append (λ o. o < 256) kind.header content sound.octets is.octets))
            (All-whole_areas (All (λ o. o < 256)) left rest (areas_below kind sound pieces more))
            ∙ told-whole 0 left (start + size) pieces more
            ∙ ap (λ place. flat_map kind.read (frames_to place (extents (start + size) pieces)))
            (let e : start + size + left ≡ start + count = omega (arith, whole, long) in e)
      ]

  -- ---- a later segment
  -- the octets of a part of the stream after the place of a piece
  tail_of_part : (front more : List Piece) (base count place : ℕ) → length (stream_of front) ≡ base + place →
      drop place (take count (drop base (stream_in kind (front ++ more))))
      ≡ take (count - place) (stream_behind kind sound (joined (map (area_in kind) front)) more)
  tail_of_part front more base count place ends =
      drop-part place count (drop base (stream_in kind (front ++ more)))
      ∙ ap (take (count - place)) (drop-drop place base (stream_in kind (front ++ more))
      ∙ ap (drop (base + place)) (stream-append kind sound front more)
      ∙ drop_at (stream_in kind front) (stream_behind kind sound (joined (map (area_in kind) front)) more)
      (base + place) (length-stream kind sound front ∙ ends))

  pub told-later : (front more : List Piece) (base count : ℕ) (confirmed : Confirmed) →
      All (IsPieceIn kind) front → All (IsPieceIn kind) more →
      hunt true 0 (take count (drop base (stream_in kind (front ++ more)))) ≡ Some confirmed →
      length (stream_of front) ≡ base + confirmed.place → confirmed.place ≤ count →
      told_in kind false (take count (drop base (stream_in kind (front ++ more))))
      ≡ flat_map kind.read (frames_to (base + count) (extents_after_first (base + confirmed.place) more))
  told-later front more base count confirmed gone left is ends within =
      let octets : List ℕ = take count (drop base (stream_in kind (front ++ more))) in
      let before : List ℕ = joined (map (area_in kind) front) in
      let few : ℕ = count - confirmed.place in
      let sent : List (List ℕ) = map (area_in kind) more in
      let areas_sent : List (List ℕ) = scrambled_behind before sent in
      let fits : All (λ area. IsPli (length area)) areas_sent =
      fits-scrambled sent areas_sent (map-length-scrambled_behind before sent) (plis kind sound more left) in
      let tail : drop confirmed.place octets ≡ take few (flat_map with_header areas_sent) =
      tail_of_part front more base count confirmed.place ends in
      let one : runs false octets ≡ record { settled = false; areas = scrambled_behind before (whole_areas few sent) }
      ∷ [] =
      runs-confirmed octets confirmed is
      ∙ ap (λ octets. record { settled = false; areas = areas octets } ∷ runs_after (after_run octets)) tail
      ∙ ap (λ found. record { settled = false; areas = found.areas } ∷ runs_after found.after)
      (follow-front few areas_sent fits)
      ∙ ap (λ found. record { settled = false; areas = found } ∷ []) (whole_areas-scrambled_behind few before sent) in
      ap (λ found. flat_map kind.told (flat_map (run_outcomes_with kind.outcome) found)) one
      ∙ ap (flat_map kind.told) (append-nil (run_outcomes_with kind.outcome
      (record { settled = false; areas = scrambled_behind before (whole_areas few sent) })))
      ∙ told-run before few (base + confirmed.place) more
      (joined_below (map (area_in kind) front) (areas_below kind sound front gone)) left
      ∙ ap (λ place. flat_map kind.read (frames_to place (extents_after_first (base + confirmed.place) more)))
      (let e : base + confirmed.place + few ≡ base + count = omega (arith, within) in e)

  -- one in which nothing is confirmed
  pub told-unconfirmed : (octets : List ℕ) → hunt true 0 octets ≡ None → told_in kind false octets ≡ []
  told-unconfirmed octets none =
      ap (λ found. flat_map kind.told (flat_map (run_outcomes_with kind.outcome) found)) (runs-none octets none)

  -- ---- the first segment
  stream-idles : (pieces : List Piece) → stream_in kind (idle ∷ idle ∷ pieces)
      ≡ flat_map with_header ([] ∷ [] ∷ scrambled_areas (map (area_in kind) pieces))
  unfolding cut
  stream-idles pieces = refl

  scrambled-idle : (pieces : List Piece) → [] ∷ scrambled_areas (map (area_in kind) pieces)
      ≡ scrambled_areas (map (area_in kind) (idle ∷ pieces))
  unfolding cut
  scrambled-idle pieces = refl

  first-long : (place : ℕ) (pieces : List Piece) → All (IsPieceIn kind) pieces → 8 ≤ place →
      told_in kind true (take place (stream_in kind (idle ∷ idle ∷ pieces)))
      ≡ flat_map kind.read (frames_to place (extents 0 (idle ∷ idle ∷ pieces)))
  unfolding extents
  first-long place pieces all long =
      let sent : List (List ℕ) = map (area_in kind) pieces in
      let come : List (List ℕ) = whole_areas (place - 4) ([] ∷ scrambled_areas sent) in
      let both : All (IsPieceIn kind) (idle ∷ pieces) = All-cons (IsPieceIn kind) idle pieces tt all in
      let plain : descrambled_areas come ≡ whole_areas (place - 4) (map (area_in kind) (idle ∷ pieces)) =
      ap (λ l. descrambled_areas (whole_areas (place - 4) l)) (scrambled-idle pieces)
      ∙ descrambled-whole_areas (place - 4) (map (area_in kind) (idle ∷ pieces))
      (areas_below kind sound (idle ∷ pieces) both) in
      ap (λ octets. told_in kind true (take place octets)) (stream-idles pieces)
      ∙ ap (λ found. flat_map kind.told (flat_map (run_outcomes_with kind.outcome) found))
      (runs-idles place (scrambled_areas sent) long
      (fits-scrambled sent (scrambled_areas sent) (map-length-scrambled_areas sent) (plis kind sound pieces all)))
      ∙ ap (flat_map kind.told)
      (append-nil (run_outcomes_with kind.outcome (record { settled = true; areas = come })))
      ∙ ap (λ areas. flat_map kind.told (outcomes_after_with kind.outcome true 0 areas)) plain
      ∙ told-whole 0 (place - 4) 4 (idle ∷ pieces) both
      ∙ ap (λ place. flat_map kind.read (frames_to place (extents 4 (idle ∷ pieces))))
      (let e : 4 + (place - 4) ≡ place = omega (arith, long) in e)

  first-few : (place : ℕ) (pieces : List Piece) → place < 8 →
      told_in kind true (take place (stream_in kind (idle ∷ idle ∷ pieces)))
      ≡ flat_map kind.read (frames_to place (extents 0 (idle ∷ idle ∷ pieces)))
  unfolding extents
  first-few place pieces few =
      ap (λ octets. told_in kind true (take place octets)) (stream-idles pieces)
      ∙ ap (λ found. flat_map kind.told (flat_map (run_outcomes_with kind.outcome) found))
      (runs-few place (flat_map with_header ([] ∷ scrambled_areas (map (area_in kind) pieces))) few)
      ∙ sym (ap (flat_map kind.read) (frames_to-none place 4 (idle ∷ pieces) (omega (arith, few))))

  pub told-stream : (place : ℕ) (pieces : List Piece) → All (IsPieceIn kind) pieces →
      told_in kind true (take place (stream_in kind (idle ∷ idle ∷ pieces)))
      ≡ flat_map kind.read (frames_to place (extents 0 (idle ∷ idle ∷ pieces)))
  told-stream place pieces all = elim (cases_lt place 8) [
    | inl few ↦ first-few place pieces few
    | inr long ↦ first-long place pieces all long
  ]
