-- The stream of frames with FCS, flipped: each frame is delivered exactly where its window is clear.
use Rattle.std.proofs.Common.{◌≡◌, ℕ, List, [], ◌++◌, ◌∙◌, ap, ap₂, append-nil, ◌+◌, ◌∷◌, length, map, take, drop, sym}
use Rattle.std.proofs.Common.{arith, append_assoc, length-append, ◌*◌, ◌<◌, ◌≤◌, ◌==◌, Bool, true, false}
use Rattle.std.proofs.Common.{if◌then◌else◌, replicate, All, Some, None, refl, subst, inl, inr, flat_map, length-take}
use Rattle.std.proofs.Common.{length-drop, take-append-drop, fold}
use Rattle.law_model.specs.Common.{core_header, cut, joined, areas_stream, scrambled_octets, octet_bits, octets_of}
use Rattle.law_model.specs.Common.{xors, descrambled, descrambled_octets, IsPli, head, with_header, header_at}
use Rattle.law_model.specs.Common.{Followed, area_then, follow_with, run_then, delineate_with, runs_with}
use Rattle.law_model.specs.Common.{area_outcomes, outcomes_after_with, descrambled_areas, run_outcomes_with, count}
use Rattle.gfp_noise.specs.flip_law.FlippedStream.{fcs_stream, IsFrame, fcs_delivered, area_size, area_flips}
use Rattle.gfp_noise.specs.flip_law.FlippedStream.{flips_after, window, AreFew, clear}
use Rattle.std.proofs.lemmas.List.{map-append, take_at, drop_at, length-replicate}
use Rattle.law_model.proofs.StreamOfPiecesLaws.{areas_stream-push}
use Rattle.law_model.proofs.ScrambledBitAndAreaLaws.{length-scrambled_octets, descrambled-scrambled}
use Rattle.law_model.proofs.ScrambledBitAndAreaLaws.{length-descrambled}
use Rattle.law_model.proofs.ScrambledBitAndAreaLaws.{descrambled-append, octet_bits-scrambled_octets}
use Rattle.law_model.proofs.ScrambledBitAndAreaLaws.{scrambled_octets-append, scrambled_octets_below, scrambled_behind}
use Rattle.law_model.proofs.ScrambledBitAndAreaLaws.{descrambled_behind, scrambled_behind-append}
use Rattle.law_model.proofs.ScrambledBitAndAreaLaws.{length-scrambled_single, scrambled_behind-single}
use Rattle.law_model.proofs.ScrambledBitAndAreaLaws.{descrambled_behind-append, descrambled_behind-single}
use Rattle.gfp_model.specs.fcs_model.Fcs.{fcs_area, fcs_outcome, frame_in}
use Rattle.std.proofs.lemmas.List.Elements.{All-append, All-drop, All-head, All-nil, All-tail}
use Rattle.law_model.proofs.CoreHeaderLaws.{length-core_header, core_header_below}
use Rattle.gfp_delineate.proofs.HuntAndFollowLaws.{header-window, search-confirmed, follow-few, follow-whole}
use Rattle.gfp_delineate.proofs.HuntAndFollowLaws.{delineate_from, delineate-open}
use Rattle.gfp_delineate.proofs.WholeAreaDeliveryLaws.{header_at-core}
use Rattle.gfp_model.specs.fcs_model.Flips.{flipped}
use Rattle.gfp_model.specs.fcs_model.NearHeader.{near}
use Rattle.check_remainder.proofs.XorAndBitCountLaws.{count-zeros, none_or_one}
use Rattle.gfp_noise.proofs.FlipPlaceAndBitLaws.{length-flipped, octet_bits-flipped, flipped-none, flipped-append}
use Rattle.gfp_noise.proofs.FlipPlaceAndBitLaws.{length-flips_of, turned-flipped}
use Rattle.gfp_model.specs.declared.fcs_model.Flip.{Flip}
use Rattle.gfp_noise.specs.flip_law.FlipPlaces.{LiesIn, turned, flips_of}
use Rattle.gfp_noise.proofs.NearHeaderLaws.{near-flipped}
use Rattle.gfp_noise.proofs.FlipRemainderAndDescramblingLaws.{descrambled-xors, left_in-area_none, left_in-area_one}
use Rattle.gfp_noise.proofs.FlippedFcsAreaLaws.{fcs_area_below, length-fcs_area, fcs_area-delivered, fcs_area-dropped}

-- ---- The stream of no frames.
-- it is two idles
pub idles : fcs_stream [] ≡ core_header 0 ++ core_header 0
unfolding cut
idles =
    let idle : List ℕ = core_header 0 in
    ap₂ (λ a b. a ++ (b ++ [])) (append-nil idle) (append-nil idle) ∙ ap (λ b. idle ++ b) (append-nil idle)

-- ---- The stream with one frame more.
-- a piece of a scrambled list is as long as what it is of
pub length-piece : (before more piece : List ℕ)
    → scrambled_octets (before ++ more) ≡ scrambled_octets before ++ piece → length piece ≡ length more
length-piece before more piece e =
    let all : length (scrambled_octets (before ++ more)) ≡ length (scrambled_octets before ++ piece) = ap length e in
    omega (
      arith,
      all,
      length-scrambled_octets (before ++ more),
      length-scrambled_octets before,
      length-append before more,
      length-append (scrambled_octets before) piece,
    )

module _ (frames : List (List ℕ)) (frame head area : List ℕ)
    (scrambles : scrambled_octets (joined (map fcs_area frames) ++ fcs_area frame)
    ≡ scrambled_octets (joined (map fcs_area frames)) ++ area)
    (is : head ≡ core_header (length (fcs_area frame))) where
  pub stream-more : fcs_stream (frames ++ frame ∷ []) ≡ fcs_stream frames ++ (head ++ area)
  stream-more =
      let before : List ℕ = joined (map fcs_area frames) in
      let last : drop (length before) (scrambled_octets (before ++ fcs_area frame)) ≡ area =
      ap (drop (length before)) scrambles
      ∙ drop_at (scrambled_octets before) area (length before) (length-scrambled_octets before) in
      ap (λ l. areas_stream ([] ∷ [] ∷ l)) (map-append fcs_area frames (frame ∷ []))
      ∙ areas_stream-push ([] ∷ [] ∷ map fcs_area frames) (fcs_area frame)
      ∙ ap (λ l. fcs_stream frames ++ l) (ap₂ ◌++◌ (sym is) last)

-- what is written of it are its core header and its area
pub taken : (n : ℕ) (head area rest : List ℕ) → length head ≡ 4 → length area ≡ n + 8
    → take (n + 8 + 4) (head ++ (area ++ rest)) ≡ head ++ area
taken n head area rest four size =
    ap (take (n + 8 + 4)) (sym (append_assoc head area rest))
    ∙ take_at (head ++ area) rest (n + 8 + 4) (let e : length (head ++ area) ≡ n + 8 + 4 = omega
    (arith, length-append head area, four, size) in e)

-- ---- The flipped stream: its one run has all areas, and each is delivered exactly where its window is clear.
-- ---- flipped scrambled octets, descrambled
pub descrambled-flipped : (flips : List Bool) (octets : List ℕ) → length flips ≡ 8 * length octets
    → descrambled_octets (flipped flips (scrambled_octets octets)) ≡ flipped (descrambled flips) octets
descrambled-flipped flips octets size =
    let sent : List ℕ = scrambled_octets octets in
    let long : length flips ≡ 8 * length sent = size ∙ sym (ap (λ n. 8 * n) (length-scrambled_octets octets)) in
    ap₂ octets_of (length-flipped flips sent ∙ length-scrambled_octets octets)
    (ap descrambled (octet_bits-flipped flips sent long)
    ∙ descrambled-xors (octet_bits sent) flips
    ∙ ap (λ l. xors l (descrambled flips))
    (ap descrambled (octet_bits-scrambled_octets octets) ∙ descrambled-scrambled (octet_bits octets)))

-- ---- an area as it is sent behind others
abbrev pub sent : List ℕ → List ℕ → List ℕ
sent before area = drop (length before) (scrambled_octets (before ++ area))

scrambled_behind-cons : (before area : List ℕ) (more : List (List ℕ))
    → scrambled_behind before (area ∷ more) ≡ sent before area ∷ scrambled_behind (before ++ area) more
scrambled_behind-cons before area more =
    scrambled_behind-append before (area ∷ []) more
    ∙ ap₂ ◌++◌ (scrambled_behind-single before area) (ap (λ l. scrambled_behind (before ++ l) more) (append-nil area))

descrambled_behind-cons : (before area : List ℕ) (more : List (List ℕ))
    → descrambled_behind before (area ∷ more) ≡ drop (length before)
    (descrambled_octets (before ++ area)) ∷ descrambled_behind (before ++ area) more
descrambled_behind-cons before area more =
    descrambled_behind-append before (area ∷ []) more
    ∙ ap₂ ◌++◌ (descrambled_behind-single before area)
    (ap (λ l. descrambled_behind (before ++ l) more) (append-nil area))

-- the octets of the stream from a frame on
abbrev stream_from : List ℕ → List (List ℕ) → List ℕ
stream_from before frames = flat_map with_header (scrambled_behind before (map fcs_area frames))

stream_from-cons : (before frame : List ℕ) (frames : List (List ℕ)) →
    stream_from before (frame ∷ frames) ≡ core_header (length frame + 8) ++
    (sent before (fcs_area frame) ++ stream_from (before ++ fcs_area frame) frames)
stream_from-cons before frame frames =
    let area : List ℕ = fcs_area frame in
    let octets : List ℕ = sent before area in
    let more : List ℕ = stream_from (before ++ area) frames in
    ap (flat_map with_header) (scrambled_behind-cons before area (map fcs_area frames))
    ∙ append_assoc (core_header (length octets)) octets more
    ∙ ap (λ n. core_header n ++ (octets ++ more)) (length-scrambled_single before area ∙ length-fcs_area frame)

-- ---- the areas as they come
unfoldable come : List ℕ → List Bool → List (List ℕ) → List (List ℕ)
come before flips [] = []
come before flips (frame ∷ frames) =
    flipped (area_flips flips frame) (sent before (fcs_area frame)) ∷ come (before ++ fcs_area frame)
    (flips_after flips frame) frames

module _ (frame : List ℕ) (flips : List Bool) (left : ℕ) (size : length flips ≡ 8 * (4 + (length frame + 8 + left)))
  where
    length-first : length (take 32 flips) ≡ 32
    length-first = omega (arith, length-take 32 flips, size)

    pub length-area_flips : length (area_flips flips frame) ≡ 8 * (length frame + 8)
    length-area_flips = omega (arith, length-take (area_size frame) (drop 32 flips), length-drop 32 flips, size)

    pub length-flips_after : length (flips_after flips frame) ≡ 8 * left
    length-flips_after = omega (arith, length-drop (area_size frame) (drop 32 flips), length-drop 32 flips, size)

    flips_in_parts : flips ≡ take 32 flips ++ (area_flips flips frame ++ flips_after flips frame)
    flips_in_parts =
        sym (ap (λ l. take 32 flips ++ l) (take-append-drop (area_size frame) (drop 32 flips)) ∙ take-append-drop 32
        flips)

    flipped_in_parts : (header area more : List ℕ) → length header ≡ 4 → length area ≡ length frame + 8 →
        flipped flips (header ++ (area ++ more)) ≡ flipped (take 32 flips) header ++
        (flipped (area_flips flips frame) area ++ flipped (flips_after flips frame) more)
    flipped_in_parts header area more four long =
        ap (λ l. flipped l (header ++ (area ++ more))) flips_in_parts
        ∙ flipped-append (take 32 flips) (area_flips flips frame ++ flips_after flips frame) header (area ++ more)
        (length-first ∙ sym (ap (λ n. 8 * n) four))
        ∙ ap (λ l. flipped (take 32 flips) header ++ l)
        (flipped-append (area_flips flips frame) (flips_after flips frame) area more
        (length-area_flips ∙ sym (ap (λ n. 8 * n) long)))

length-stream_from : (before frame : List ℕ) (frames : List (List ℕ))
    → length (stream_from before (frame ∷ frames)) ≡ 4 +
    (length frame + 8 + length (stream_from (before ++ fcs_area frame) frames))
length-stream_from before frame frames =
    let area : List ℕ = fcs_area frame in
    let more : List ℕ = stream_from (before ++ area) frames in
    ap length (stream_from-cons before frame frames)
    ∙ (let e : length (core_header (length frame + 8) ++ (sent before area ++ more)) ≡ 4 +
    (length frame + 8 + length more) =
    omega (
      arith,
      length-append (core_header (length frame + 8)) (sent before area ++ more),
      length-core_header
          (length frame + 8),
      length-append (sent before area) more,
      length-scrambled_single before area,
      length-fcs_area
          frame,
    ) in e)

-- one area in front
follow-area : (header area more : List ℕ) (pli : ℕ) → length header ≡ 4 → length area ≡ pli → near header ≡ Some pli →
    follow_with near (header ++ (area ++ more)) ≡ area_then area (follow_with near more)
follow-area header area more pli four long found =
    let octets : List ℕ = header ++ (area ++ more) in
    follow-whole near octets pli (header-window near header (area ++ more) four ∙ found)
    (omega (arith, length-append header (area ++ more), length-append area more, four, long))
    ∙ ap₂ (λ front behind. area_then front (follow_with near behind))
    (ap (take pli) (drop_at header (area ++ more) 4 four) ∙ take_at area more pli long)
    (ap (drop (4 + pli)) (sym (append_assoc header area more))
    ∙ drop_at (header ++ area) more (4 + pli)
    (let e : length (header ++ area) ≡ 4 + pli = omega (arith, length-append header area, four, long) in e))

-- the run from a frame on
follow-come : (before : List ℕ) (turned flips : List Bool) (frames : List (List ℕ)) → All IsFrame frames
    → length flips ≡ 8 * length (stream_from before frames) → AreFew turned flips frames →
    follow_with near (flipped flips (stream_from before frames)) ≡ record
    { areas = come before flips frames; after = None }
unfolding cut octets_of come AreFew
follow-come before turned flips [] all size few = follow-few near [] (omega arith)
follow-come before turned flips (frame ∷ frames) all size few =
    let is : IsFrame frame = All-head IsFrame frame frames all in
    let area : List ℕ = fcs_area frame in
    let pli : ℕ = length frame + 8 in
    let more : List ℕ = stream_from (before ++ area) frames in
    let long : length flips ≡ 8 * (4 + (length frame + 8 + length more)) = size
    ∙ ap (λ n. 8 * n) (length-stream_from before frame frames) in
    let octets : length (sent before area) ≡ length frame + 8 = length-scrambled_single before area
    ∙ length-fcs_area frame in
    let fits : IsPli pli = (omega (arith, is.most), inr (omega arith)) in
    ap (λ l. follow_with near (flipped flips l)) (stream_from-cons before frame frames)
    ∙ ap (follow_with near) (flipped_in_parts frame flips (length more) long (core_header pli) (sent before area) more
    (length-core_header pli) octets)
    ∙ follow-area (flipped (take 32 flips) (core_header pli)) (flipped (area_flips flips frame) (sent before area))
    (flipped (flips_after flips frame) more) pli
    (length-flipped (take 32 flips) (core_header pli) ∙ length-core_header pli)
    (length-flipped (area_flips flips frame) (sent before area) ∙ octets)
    (near-flipped pli (take 32 flips) fits (length-first frame flips (length more) long) few.0)
    ∙ ap (area_then (flipped (area_flips flips frame) (sent before area)))
    (follow-come (before ++ area) (turned ++ area_flips flips frame) (flips_after flips frame) frames
    (All-tail IsFrame frame frames all) (length-flips_after frame flips (length more) long) few.2)

-- ---- what comes of each area
-- the area behind others, as it is after descrambling
plain_area : (before area : List ℕ) (turned flips : List Bool) → length turned ≡ 8 * length before
    → length flips ≡ 8 * length area →
    drop (length (flipped turned (scrambled_octets before)))
    (descrambled_octets (flipped (turned ++ flips) (scrambled_octets (before ++ area))))
    ≡ flipped (drop (length turned) (descrambled (turned ++ flips))) area
plain_area before area turned flips b a =
    let left : List Bool = drop (length turned) (descrambled (turned ++ flips)) in
    ap₂ drop (length-flipped turned (scrambled_octets before) ∙ length-scrambled_octets before)
    (descrambled-flipped (turned ++ flips) (before ++ area)
    (omega (arith, length-append turned flips, length-append before area, a, b))
    ∙ ap (λ l. flipped l (before ++ area)) (descrambled-append turned flips)
    ∙ flipped-append (descrambled turned) left before area (length-descrambled turned ∙ b))
    ∙ drop_at (flipped (descrambled turned) before) (flipped left area) (length before)
    (length-flipped (descrambled turned) before)

come_behind : (before area : List ℕ) (turned flips : List Bool) → length turned ≡ 8 * length before →
    flipped turned (scrambled_octets before) ++ flipped flips (sent before area) ≡ flipped (turned ++ flips)
    (scrambled_octets (before ++ area))
come_behind before area turned flips b =
    sym (ap (flipped (turned ++ flips)) (scrambled_octets-append before area)
    ∙ flipped-append turned flips (scrambled_octets before) (sent before area)
    (b ∙ sym (ap (λ n. 8 * n) (length-scrambled_octets before))))

-- the outcome of an area
area_outcomes-some : (before : ℕ) (area : List ℕ) → 0 < length area
    → area_outcomes fcs_outcome true before area ≡ fcs_outcome true area ∷ []
area_outcomes-some before [] h = absurd (omega arith)
area_outcomes-some before (o ∷ area) h = refl

frame_by-window : (frame : List ℕ) (turned flips : List Bool) → IsFrame frame → length flips ≡ 8 * (length frame + 8)
    → count (window turned flips) ≤ 1 →
    frame_in (fcs_outcome true (flipped (drop (length turned) (descrambled (turned ++ flips))) (fcs_area frame))) ≡
    (if count (window turned flips) == 0 then frame ∷ [] else [])
frame_by-window frame turned flips is size few =
    let left : List Bool = drop (length turned) (descrambled (turned ++ flips)) in
    let long : length left ≡ 8 * (length frame + 8) =
    omega (
      arith,
      length-drop (length turned) (descrambled (turned ++ flips)),
      length-descrambled
          (turned ++ flips),
      length-append turned flips,
      size,
    ) in
    elim (none_or_one (window turned flips) few) [
      | inl none ↦ rw none
          (ap (λ l. frame_in (fcs_outcome true (flipped l (fcs_area frame)))) (left_in-area_none turned flips none)
          ∙ ap (λ l. frame_in (fcs_outcome true l))
          (flipped-none (length flips) (fcs_area frame) (size ∙ sym (ap (λ n. 8 * n) (length-fcs_area frame)))
          (fcs_area_below frame is))
          ∙ ap frame_in (fcs_area-delivered frame is))
      | inr single ↦ rw single (fcs_area-dropped frame left is long
          (left_in-area_one turned flips (omega (arith, size)) single))
    ]

outcomes-come : (count_before : ℕ) (before : List ℕ) (turned flips : List Bool) (frames : List (List ℕ))
    → All IsFrame frames → length turned ≡ 8 * length before →
    length flips ≡ 8 * length (stream_from before frames) → AreFew turned flips frames →
    flat_map frame_in (outcomes_after_with fcs_outcome true count_before
    (descrambled_behind (flipped turned (scrambled_octets before)) (come before flips frames))) ≡ clear turned flips
    frames
unfolding cut come AreFew clear outcomes_after_with
outcomes-come n before turned flips [] all b size few = refl
outcomes-come n before turned flips (frame ∷ frames) all b size few =
    let is : IsFrame frame = All-head IsFrame frame frames all in
    let area : List ℕ = fcs_area frame in
    let mine : List Bool = area_flips flips frame in
    let left : List Bool = drop (length turned) (descrambled (turned ++ mine)) in
    let more : List ℕ = stream_from (before ++ area) frames in
    let rest : List (List ℕ) = come (before ++ area) (flips_after flips frame) frames in
    let was : List ℕ = flipped turned (scrambled_octets before) in
    let got : List ℕ = flipped mine (sent before area) in
    let now : List ℕ = flipped (turned ++ mine) (scrambled_octets (before ++ area)) in
    let long : length flips ≡ 8 * (4 + (length frame + 8 + length more)) = size
    ∙ ap (λ n. 8 * n) (length-stream_from before frame frames) in
    let mine_long : length mine ≡ 8 * (length frame + 8) = length-area_flips frame flips (length more) long in
    let together : was ++ got ≡ now = come_behind before area turned mine b in
    let plain : drop (length was) (descrambled_octets (was ++ got)) ≡ flipped left area =
    ap (λ l. drop (length was) (descrambled_octets l)) together
    ∙ plain_area before area turned mine b (mine_long ∙ sym (ap (λ n. 8 * n) (length-fcs_area frame))) in
    let some : 0 < length (flipped left area) = omega (arith, length-flipped left area, length-fcs_area frame) in
    ap (λ areas. flat_map frame_in (outcomes_after_with fcs_outcome true n areas))
    (descrambled_behind-cons was got rest ∙ ap₂ (λ front before. front ∷ descrambled_behind before rest) plain together)
    ∙ ap (λ first. flat_map frame_in
    (first ++ outcomes_after_with fcs_outcome true (n + length (flipped left area)) (descrambled_behind now rest)))
    (area_outcomes-some n (flipped left area) some)
    ∙ ap₂ ◌++◌ (frame_by-window frame turned mine is mine_long few.1)
    (outcomes-come (n + length (flipped left area)) (before ++ area) (turned ++ mine) (flips_after flips frame) frames
    (All-tail IsFrame frame frames all)
    (omega (arith, length-append turned mine, length-append before area, b, mine_long, length-fcs_area frame))
    (length-flips_after frame flips (length more) long) few.2)

-- ---- the whole stream
idle_fits : IsPli 0
idle_fits = (omega arith, inl refl)

near-idle : near (core_header 0) ≡ Some 0
near-idle =
    ap near (sym (flipped-none 32 (core_header 0) (sym (ap (λ n. 8 * n) (length-core_header 0))) (core_header_below 0)))
    ∙ near-flipped 0 (replicate 32 false) idle_fits (length-replicate 32 false) (omega (arith, count-zeros 32))

fcs_stream-idles : (frames : List (List ℕ))
    → fcs_stream frames ≡ (core_header 0 ++ core_header 0) ++ stream_from [] frames
unfolding cut
fcs_stream-idles frames =
    let idle : List ℕ = core_header 0 in
    ap₂ (λ a b. a ++ (b ++ stream_from [] frames)) (append-nil idle) (append-nil idle)
    ∙ sym (append_assoc idle idle (stream_from [] frames))

-- the areas of a run that begins with an idle
runs-idles : (octets : List ℕ) (areas : List (List ℕ))
    → follow_with near octets ≡ record { areas = areas; after = None } →
    runs_with head near true (core_header 0 ++ (core_header 0 ++ octets)) ≡ record
    { settled = true; areas = [] ∷ areas } ∷ []
runs-idles octets areas e =
    let idle : List ℕ = core_header 0 in
    let four : length idle ≡ 4 = length-core_header 0 in
    let after : drop (4 + 0) (idle ++ (idle ++ octets)) ≡ idle ++ octets = drop_at idle (idle ++ octets) 4 four in
    ap (λ found. found.runs)
    (delineate-open head near true (idle ++ (idle ++ octets))
    ∙ ap (delineate_from head near)
    (search-confirmed head false (idle ++ (idle ++ octets)) 0 0 (header_at-core 0 (idle ++ octets) idle_fits)
    (ap header_at after ∙ header_at-core 0 octets idle_fits)
    ∙ ap (λ octets. Some (false, octets)) after)
    ∙ ap (λ (found : Followed). run_then (record { settled = true; areas = found.areas }) found.after
    (delineate_with head near false))
    (follow-area idle [] octets 0 four refl near-idle ∙ ap (area_then []) e))

outcomes-idle : (areas : List (List ℕ)) → outcomes_after_with fcs_outcome true 0
    (descrambled_areas ([] ∷ areas)) ≡ outcomes_after_with fcs_outcome true 0 (descrambled_areas areas)
unfolding cut outcomes_after_with
outcomes-idle areas = refl

pub delivered-clear : (frames : List (List ℕ)) (flips : List Bool) → All IsFrame frames
    → length flips ≡ 8 * length (fcs_stream frames) →
    take 64 flips ≡ replicate 64 false → AreFew [] (drop 64 flips) frames → fcs_delivered
    (flipped flips (fcs_stream frames)) ≡ clear [] (drop 64 flips) frames
unfolding octets_of
delivered-clear frames flips all size none few =
    let idle : List ℕ = core_header 0 in
    let behind : List Bool = drop 64 flips in
    let more : List ℕ = stream_from [] frames in
    let areas : List (List ℕ) = come [] behind frames in
    let four : length idle ≡ 4 = length-core_header 0 in
    let eight : 64 ≡ 8 * length (idle ++ idle) = omega (arith, length-append idle idle, four) in
    let long : length flips ≡ 8 * (8 + length more) =
    size ∙ ap (λ n. 8 * n) (ap length (fcs_stream-idles frames) ∙
    (let e : length ((idle ++ idle) ++ more) ≡ 8 + length more = omega
    (arith, length-append (idle ++ idle) more, length-append idle idle, four) in e)) in
    let rest : length behind ≡ 8 * length more = omega (arith, length-drop 64 flips, long) in
    let octets : flipped flips (fcs_stream frames) ≡ idle ++ (idle ++ flipped behind more) =
    ap₂ flipped (sym (take-append-drop 64 flips) ∙ ap (λ l. l ++ behind) none) (fcs_stream-idles frames)
    ∙ flipped-append (replicate 64 false) behind (idle ++ idle) more (length-replicate 64 false ∙ eight)
    ∙ ap (λ l. l ++ flipped behind more)
    (flipped-none 64 (idle ++ idle) eight
    (All-append (λ o. o < 256) idle idle (core_header_below 0) (core_header_below 0)))
    ∙ append_assoc idle idle (flipped behind more) in
    ap fcs_delivered octets
    ∙ ap (λ found. flat_map frame_in (flat_map (run_outcomes_with fcs_outcome) found))
    (runs-idles (flipped behind more) areas (follow-come [] [] behind frames all rest few))
    ∙ ap (flat_map frame_in) (append-nil
    (run_outcomes_with fcs_outcome (record { settled = true; areas = [] ∷ areas })) ∙ outcomes-idle areas)
    ∙ outcomes-come 0 [] [] behind frames all refl rest few

-- ---- the size of the stream
-- the sum of n + 12 over the frames
unfoldable pub sizes : List (List ℕ) → ℕ
sizes [] = 0
sizes (frame ∷ frames) = 4 + (length frame + 8 + sizes frames)

length-stream_from-all : (before : List ℕ) (frames : List (List ℕ)) → length (stream_from before frames) ≡ sizes frames
unfolding sizes cut
length-stream_from-all before [] = refl
length-stream_from-all before (frame ∷ frames) = length-stream_from before frame frames
    ∙ ap (λ n. 4 + (length frame + 8 + n)) (length-stream_from-all (before ++ fcs_area frame) frames)

pub length-fcs_stream : (frames : List (List ℕ)) → length (fcs_stream frames) ≡ 8 + sizes frames
length-fcs_stream frames =
    let idle : List ℕ = core_header 0 in
    ap length (fcs_stream-idles frames)
    ∙ (let e : length ((idle ++ idle) ++ stream_from [] frames) ≡ 8 + sizes frames = omega (
      arith,
      length-append (idle ++ idle) (stream_from [] frames),
      length-append idle idle,
      length-core_header 0,
      length-stream_from-all [] frames,
    ) in e)

-- each is an octet
stream_from_below : (before : List ℕ) (frames : List (List ℕ)) → All (λ o. o < 256) (stream_from before frames)
unfolding cut
stream_from_below before [] = All-nil (λ o. o < 256)
stream_from_below before (frame ∷ frames) =
    let below : ℕ → Type 0 = λ o. o < 256 in
    let area : List ℕ = fcs_area frame in
    subst (All below) (sym (stream_from-cons before frame frames))
    (All-append below (core_header (length frame + 8)) (sent before area ++ stream_from (before ++ area) frames)
    (core_header_below (length frame + 8))
    (All-append below (sent before area) (stream_from (before ++ area) frames)
    (All-drop below (length before) (scrambled_octets (before ++ area)) (scrambled_octets_below (before ++ area)))
    (stream_from_below (before ++ area) frames)))

pub fcs_stream_below : (frames : List (List ℕ)) → All (λ o. o < 256) (fcs_stream frames)
fcs_stream_below frames =
    let below : ℕ → Type 0 = λ o. o < 256 in
    let idle : List ℕ = core_header 0 in
    subst (All below) (sym (fcs_stream-idles frames))
    (All-append below (idle ++ idle) (stream_from [] frames)
    (All-append below idle idle (core_header_below 0) (core_header_below 0)) (stream_from_below [] frames))

-- the same for flips by place
pub delivered-places : (frames : List (List ℕ)) (flips : List Flip) (all : List Bool) → All IsFrame frames
    → All (LiesIn (length (fcs_stream frames))) flips →
    all ≡ flips_of (length (fcs_stream frames)) flips → take 64 all ≡ replicate 64 false → AreFew []
    (drop 64 all) frames →
    fcs_delivered (fold turned (fcs_stream frames) flips) ≡ clear [] (drop 64 all) frames
delivered-places frames flips all fit lie is none few =
    let n : ℕ = length (fcs_stream frames) in
    ap fcs_delivered (turned-flipped flips n (fcs_stream frames) refl lie (fcs_stream_below frames) ∙ ap
    (λ l. flipped l (fcs_stream frames)) (sym is))
    ∙ delivered-clear frames all fit (ap length is ∙ length-flips_of n flips lie) none few
