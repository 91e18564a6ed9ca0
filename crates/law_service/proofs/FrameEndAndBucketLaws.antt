-- Where the frames that land end in the stream, and how full it gets if a client keeps to a bucket.
use Rattle.std.proofs.Common.{◌≡◌, ℕ, zero, suc, ◌+◌, ◌<◌, ◌≤◌, nat_le, true, false, if◌then◌else◌, List, [], ◌∷◌}
use Rattle.std.proofs.Common.{◌++◌, map, filter, fold, length, slice_get, All, Option, Some, None, option_map, refl}
use Rattle.std.proofs.Common.{sym, ◌∙◌, ap, ap₂, subst, arith, ◌-◌, ◌*◌, nat_lt, inl, inr, take, get_or, max}
use Rattle.std.proofs.lemmas.Bool.Decides.{nat_tests}
use Rattle.std.proofs.lemmas.Option.{none-some, slice_get-map, get_or_from_slice_get, slice_get_within, same_Some}
use Rattle.std.proofs.lemmas.Option.{slice_get-get_or}
use Rattle.std.proofs.lemmas.List.{append_assoc, append-nil, map-append, length-map}
use Rattle.std.proofs.lemmas.List.Elements.{All-nil, All-cons, All-append, filter_passes, filter-append}
use Rattle.std.proofs.lemmas.List.Sums.{sum_by-append, sum_by-cons}
use Rattle.law_model.specs.Common.{Piece, idle, client, size_of, frame_ends, Extent, extents, Leg, DueFrame, Scenario}
use Rattle.law_model.specs.Common.{scenario_by, comes_at, frames_at, IsSound, kept_by, size, Stream, frame_refusal}
use Rattle.law_model.specs.Common.{offered_by, offered, next_by, reaching, place_of, stream_before, accepted_offers}
use Rattle.law_model.specs.Common.{offers_before, Told, shortest_frame, longest_frame, most_waiting, IsWithin}
use Rattle.law_model.specs.declared.item_refusals.AcceptFault.{AcceptFault}
use Rattle.law_session.proofs.ClientStreamAndReplayLaws.{stream_before-reaches, offered_all-pieces}
use Rattle.law_walk.specs.Common.{accepted_frames, session_extents, session_pieces, session_waiting, place_after}
use Rattle.law_walk.specs.Common.{session_of, Numbered, IsOfferAt, stream_met, refusal_at}
use Rattle.law_walk.proofs.AcceptedFrameAndDrainedWalkLaws.{frames-accepted}
use Rattle.law_service.specs.FrameEnds.{filled, Placed, placed_by, placed_offers, placed_before, placed_frames}
use Rattle.std.proofs.Math.Nat.{mul-suc, suc-mul, mul-le-mul_left, mul-le-mul_right}
use Rattle.std.proofs.lemmas.Bool.{cases_lt, leb-false, le-ltb, lt-leb}
use Rattle.law_model.proofs.ListLaws.{All-front, All-after}
use Rattle.law_walk.proofs.LandedItemRefusalAndTotalLaws.{offer-at, offer-refusal}
use Rattle.law_model.specs.declared.item_refusals.Refusal.TheVariants.{Frame as frame_fault}
use Rattle.law_service.specs.Bucket.{arrivals, arrivals_in, stream_at, Bucket, KeepsTo, LiesIn}

-- ---- Where frames end: the pieces and then the frames that wait end at the places that were told as they landed.
-- ---- the ends of pieces
-- pieces in two parts
frame_ends-append : (start : ℕ) (front more : List Piece) →
    frame_ends start (front ++ more) ≡ frame_ends start front ++ frame_ends (start + size front) more
unfolding frame_ends
frame_ends-append start [] more = ap (λ n. frame_ends n more) (let e : start ≡ start + 0 = omega arith in e)
frame_ends-append start (idle ∷ front) more =
    let sum = sum_by-cons size_of idle front in
    frame_ends-append (start + size_of idle) front more
    ∙ ap (λ n. frame_ends (start + size_of idle) front ++ frame_ends n more)
    (let e : start + size_of idle + size front ≡ start + size (idle ∷ front) = omega arith in e)
frame_ends-append start (client frame ∷ front) more =
    let sum = sum_by-cons size_of (client frame) front in
    ap (λ l. (start + size_of (client frame), frame) ∷ l)
    (frame_ends-append (start + size_of (client frame)) front more
    ∙ ap (λ n. frame_ends (start + size_of (client frame)) front ++ frame_ends n more)
    (let e : start + size_of (client frame) + size front ≡ start + size (client frame ∷ front) = omega arith in e))

frames_behind : (front more : List Piece) →
    frame_ends 0 (front ++ more) ≡ frame_ends 0 front ++ frame_ends (size front) more
frames_behind front more =
    frame_ends-append 0 front more
    ∙ ap (λ n. frame_ends 0 front ++ frame_ends n more) (let e : 0 + size front ≡ size front = omega arith in e)

-- those of a stream: of its pieces, and then of the frames that wait
abbrev ends_of : Stream → List (ℕ × List ℕ)
ends_of stream = frame_ends 0 stream.pieces ++ frame_ends (size stream.pieces) (map client stream.waiting)

-- a frame that is begun ends there
next_by-ends : (waiting : List (List ℕ)) (pieces : List Piece) →
    ends_of (next_by waiting pieces) ≡ ends_of (record { pieces = pieces; waiting = waiting })
unfolding frame_ends
next_by-ends [] pieces = ap (λ l. l ++ []) (frames_behind pieces (idle ∷ []) ∙ append-nil (frame_ends 0 pieces))
next_by-ends (frame ∷ waiting) pieces =
    let sums = sum_by-append size_of pieces (client frame ∷ []) in
    let e : size (pieces ++ client frame ∷ []) ≡ size pieces + size_of (client frame) = omega arith in
    ap₂ (λ l n. l ++ frame_ends n (map client waiting)) (frames_behind pieces (client frame ∷ [])) e
    ∙ append_assoc (frame_ends 0 pieces) ((size pieces + size_of (client frame), frame) ∷ [])
    (frame_ends (size pieces + size_of (client frame)) (map client waiting))

reaching-ends : (steps place : ℕ) (stream : Stream) → ends_of (reaching steps place stream) ≡ ends_of stream
unfolding reaching
reaching-ends zero place stream = refl
reaching-ends (suc steps) place stream =
    elim (nat_le place (size stream.pieces))
    as (λ b. ends_of (if b then stream else reaching steps place (next_by stream.waiting stream.pieces))
    ≡ ends_of stream) [
      | true ↦ refl
      | false ↦ reaching-ends steps place (next_by stream.waiting stream.pieces)
          ∙ next_by-ends stream.waiting stream.pieces
    ]

-- ---- frames that land
abbrev offer_in : Placed → DueFrame
offer_in placed = record { due = placed.due; frame = placed.frame }

abbrev end_of : Placed → ℕ × List ℕ
end_of placed = (placed.to, placed.frame)

waits-ends : (stream : Stream) (frame : List ℕ) →
    ends_of (record { pieces = stream.pieces; waiting = stream.waiting ++ frame ∷ [] })
    ≡ ends_of stream ++ (filled stream + size_of (client frame), frame) ∷ []
unfolding frame_ends
waits-ends stream frame =
    ap (λ l. frame_ends 0 stream.pieces ++ frame_ends (size stream.pieces) l)
    (map-append client stream.waiting (frame ∷ []))
    ∙ ap (λ l. frame_ends 0 stream.pieces ++ l)
    (frame_ends-append (size stream.pieces) (map client stream.waiting) (client frame ∷ []))
    ∙ sym (append_assoc (frame_ends 0 stream.pieces) (frame_ends (size stream.pieces) (map client stream.waiting))
    ((filled stream + size_of (client frame), frame) ∷ []))

offered_by-ends : (why : Option AcceptFault) (offer : DueFrame) (rest : List Placed) (stream : Stream) →
    ends_of (offered_by why offer.frame stream) ++ map end_of rest
    ≡ ends_of stream ++ map end_of (kept_by why (placed_by stream offer) rest)
offered_by-ends None offer rest stream =
    ap (λ l. l ++ map end_of rest) (waits-ends stream offer.frame)
    ∙ append_assoc (ends_of stream) (end_of (placed_by stream offer) ∷ []) (map end_of rest)
offered_by-ends (Some why) offer rest stream = refl

offers-ends : (offers : List DueFrame) (stream : Stream) →
    ends_of (fold offered stream (map (λ (offer : DueFrame). offer.frame) offers))
    ≡ ends_of stream ++ map end_of (placed_offers stream offers)
offers-ends [] stream = sym (append-nil (ends_of stream))
offers-ends (offer ∷ offers) stream =
    offers-ends offers (offered stream offer.frame)
    ∙ offered_by-ends (frame_refusal offer.frame stream) offer (placed_offers (offered stream offer.frame) offers) stream

-- what holds of an offer that is accepted and of those after it holds of all that are
pub kept-all : (P : Placed → Type 0) (why : Option AcceptFault) (placed : Placed) (rest : List Placed) → P placed →
    All P rest → All P (kept_by why placed rest)
kept-all P None placed rest own all = All-cons P placed rest own all
kept-all P (Some why) placed rest own all = all

module _ (scenario : Scenario) (cells : List (Option Told)) where
  pub placed-ends : (t : ℕ) →
      ends_of (stream_before scenario cells t) ≡ map end_of (placed_before scenario cells t)
  unfolding stream_before placed_before frame_ends
  placed-ends zero = refl
  placed-ends (suc t) =
      let come = filter (comes_at t) scenario.offers in
      let stream = stream_before scenario cells t in
      let place = place_of scenario cells (suc t) in
      reaching-ends place place (fold offered stream (frames_at scenario t))
      ∙ offers-ends come stream
      ∙ ap (λ l. l ++ map end_of (placed_offers stream come)) (placed-ends t)
      ∙ sym (map-append end_of (placed_before scenario cells t) (placed_offers stream come))

  -- ---- they are the accepted ones
  pub placed-offers : (t : ℕ) →
      map offer_in (placed_before scenario cells t)
      ≡ offers_before scenario cells t
  unfolding placed_before offers_before
  placed-offers zero = refl
  placed-offers (suc t) =
      let come = filter (comes_at t) scenario.offers in
      let stream = stream_before scenario cells t in
      map-append offer_in (placed_before scenario cells t) (placed_offers stream come)
      ∙ ap₂ ◌++◌ (placed-offers t) (each come stream)
    where
      kept : (why : Option AcceptFault) (offer : DueFrame) (stream : Stream) (rest : List Placed)
          (accepted : List DueFrame) →
          map offer_in rest ≡ accepted →
          map offer_in
          (kept_by why (placed_by stream offer) rest) ≡ kept_by why offer accepted
      kept None offer stream rest accepted e = ap (λ l. offer ∷ l) e
      kept (Some why) offer stream rest accepted e = e

      each : (offers : List DueFrame) (stream : Stream) →
          map offer_in (placed_offers stream offers)
          ≡ accepted_offers stream offers
      each [] stream = refl
      each (offer ∷ offers) stream =
          kept (frame_refusal offer.frame stream) offer stream (placed_offers (offered stream offer.frame) offers)
          (accepted_offers (offered stream offer.frame) offers) (each offers (offered stream offer.frame))

  -- ---- none begins before its tick
  abbrev IsLater : Placed → Type 0
  IsLater placed = place_of scenario cells placed.due + size_of (client placed.frame) ≤ placed.to

  offers-later : (t : ℕ) (offers : List DueFrame) (stream : Stream) → place_of scenario cells t ≤ size stream.pieces →
      All (λ (offer : DueFrame). comes_at t offer ≡ true) offers → All IsLater (placed_offers stream offers)
  offers-later t [] stream low come = All-nil IsLater
  offers-later t (offer ∷ offers) stream low come =
      let here : comes_at t offer ≡ true = come 0 offer (omega arith) in
      let due : offer.due ≡ t = grind (arith, nat_tests, here) in
      let later : IsLater (placed_by stream offer) =
      subst (λ n. place_of scenario cells n + size_of (client offer.frame) ≤ filled stream + size_of (client offer.frame))
      (sym due) (omega arith) in
      kept-all IsLater (frame_refusal offer.frame stream) (placed_by stream offer)
      (placed_offers (offered stream offer.frame) offers) later
      (offers-later t offers (offered stream offer.frame) (pieces (frame_refusal offer.frame stream) low)
      (λ k d inside. come (suc k) d (omega arith)))
    where
      pieces : (why : Option AcceptFault) → place_of scenario cells t ≤ size stream.pieces →
          place_of scenario cells t ≤ size (offered_by why offer.frame stream).pieces
      pieces None low = low
      pieces (Some why) low = low

  pub placed-later : (t : ℕ) → All IsLater (placed_before scenario cells t)
  unfolding placed_before
  placed-later zero = All-nil IsLater
  placed-later (suc t) =
      All-append IsLater (placed_before scenario cells t)
      (placed_offers (stream_before scenario cells t) (filter (comes_at t) scenario.offers)) (placed-later t)
      (offers-later t (filter (comes_at t) scenario.offers) (stream_before scenario cells t)
      (stream_before-reaches scenario cells t) (filter_passes (comes_at t) scenario.offers))

-- ---- the extents of a leg
extents-ends : (start : ℕ) (pieces : List Piece) →
    map (λ (extent : Extent). (extent.to, extent.frame)) (extents start pieces) ≡ frame_ends start pieces
unfolding extents frame_ends
extents-ends start [] = refl
extents-ends start (idle ∷ pieces) = extents-ends (start + size_of idle) pieces
extents-ends start (client frame ∷ pieces) =
    ap (λ l. (start + size_of (client frame), frame) ∷ l) (extents-ends (start + size_of (client frame)) pieces)

abbrev HasSize : Extent → Type 0
HasSize extent = extent.from + size_of (client extent.frame) ≡ extent.to

extents-size : (start : ℕ) (pieces : List Piece) → All HasSize (extents start pieces)
unfolding extents
extents-size start [] = All-nil HasSize
extents-size start (idle ∷ pieces) = extents-size (start + size_of idle) pieces
extents-size start (client frame ∷ pieces) =
    All-cons HasSize (record { from = start; to = start + size_of (client frame); frame = frame })
    (extents (start + size_of (client frame)) pieces) refl (extents-size (start + size_of (client frame)) pieces)

-- what holds of each holds of the one with a number
pub at-number : {X : Type 0} (P : X → Type 0) (xs : List X) (n : ℕ) (x : X) → All P xs → slice_get xs n ≡ Some x → P x
at-number P xs n x all is = subst P (get_or_from_slice_get xs n x x is) (all n x (slice_get_within xs n x is))

first-part : {X : Type 0} (xs ys : List X) (n : ℕ) (x y : X) → slice_get xs n ≡ Some x →
    slice_get (xs ++ ys) n ≡ Some y → x ≡ y
first-part [] ys n x y is other = absurd (none-some x is)
first-part (z ∷ xs) ys zero x y is other = sym (same_Some z x is) ∙ same_Some z y other
first-part (z ∷ xs) ys (suc n) x y is other = first-part xs ys n x y is other

last-part : {X : Type 0} (xs ys : List X) (n : ℕ) (y : X) → slice_get (xs ++ ys) n ≡ Some y → length xs ≤ n →
    (k : ℕ) × (slice_get ys k ≡ Some y)
last-part [] ys n y is low = (n, is)
last-part (z ∷ xs) ys zero y is low = absurd (omega arith)
last-part (z ∷ xs) ys (suc n) y is low = last-part xs ys n y is (omega arith)

module _ (leg : Leg) where
  abbrev ends : List (ℕ × List ℕ)
  ends = map (λ (extent : Extent). (extent.to, extent.frame)) (session_extents leg)

  abbrev waiting_ends : List (ℕ × List ℕ)
  waiting_ends = frame_ends (size (session_pieces leg)) (map client (session_waiting leg))

  -- those of the pieces come first
  leg-ends : map end_of (placed_frames leg) ≡ ends ++ waiting_ends
  leg-ends =
      sym (placed-ends (scenario_by leg) (session_of leg) leg.config.ticks)
      ∙ ap (λ l. l ++ waiting_ends) (sym (extents-ends 0 (session_pieces leg)))

  pub place-settled : (n : ℕ) (placed : Placed) (extent : Extent) → slice_get (placed_frames leg) n ≡ Some placed →
      slice_get (session_extents leg) n ≡ Some extent → (extent.frame ≡ placed.frame) × (extent.to ≡ placed.to)
  place-settled n placed extent one other =
      let a = slice_get-map end_of (placed_frames leg) n ∙ ap (option_map end_of) one in
      let b = slice_get-map (λ (extent : Extent). (extent.to, extent.frame)) (session_extents leg) n
      ∙ ap (option_map (λ (extent : Extent). (extent.to, extent.frame))) other in
      let same = first-part ends waiting_ends n (extent.to, extent.frame) (placed.to, placed.frame) b
      (sym (ap (λ l. slice_get l n) leg-ends) ∙ a) in
      (ap (λ (e : ℕ × List ℕ). e.1) same, ap (λ (e : ℕ × List ℕ). e.0) same)

  pub place-begins : (n : ℕ) (placed : Placed) (extent : Extent) → slice_get (placed_frames leg) n ≡ Some placed →
      slice_get (session_extents leg) n ≡ Some extent → place_after leg placed.due ≤ extent.from
  place-begins n placed extent one other =
      let same = place-settled n placed extent one other in
      let later = at-number (IsLater (scenario_by leg) (session_of leg)) (placed_frames leg) n placed
      (placed-later (scenario_by leg) (session_of leg) leg.config.ticks) one in
      let size = at-number HasSize (session_extents leg) n extent
      (extents-size 0 (session_pieces leg)) other in
      let frames : size_of (client extent.frame) ≡ size_of (client placed.frame) =
      ap (λ frame. size_of (client frame)) same.0 in
      let to = same.1 in
      omega arith

  pub place-accepted : IsSound leg → map (λ (placed : Placed). placed.frame) (placed_frames leg) ≡ accepted_frames leg
  place-accepted sound =
      sym (map-map (placed_frames leg))
      ∙ ap (map (λ (offer : DueFrame). offer.frame)) (placed-offers (scenario_by leg) (session_of leg) leg.config.ticks)
      ∙ frames-accepted leg sound
    where
      map-map : (all : List Placed) → map (λ (offer : DueFrame). offer.frame)
          (map offer_in all)
          ≡ map (λ (placed : Placed). placed.frame) all
      map-map [] = refl
      map-map (placed ∷ all) = ap (λ l. placed.frame ∷ l) (map-map all)

  -- ---- one that isn't begun ends behind all pieces
  waiting-behind : (start : ℕ) (waiting : List (List ℕ)) (k : ℕ) (e : ℕ × List ℕ) →
      slice_get (frame_ends start (map client waiting)) k ≡ Some e → start < e.0
  unfolding frame_ends
  waiting-behind start [] k e is = absurd (none-some e is)
  waiting-behind start (frame ∷ waiting) zero e is =
      let same = ap (λ (e : ℕ × List ℕ). e.0) (same_Some (start + size_of (client frame), frame) e is) in
      omega arith
  waiting-behind start (frame ∷ waiting) (suc k) e is =
      let rest = waiting-behind (start + size_of (client frame)) waiting k e is in
      omega arith

  pub place-waits : (n : ℕ) (placed : Placed) → slice_get (placed_frames leg) n ≡ Some placed →
      length (session_extents leg) ≤ n → size (session_pieces leg) < placed.to
  place-waits n placed one behind =
      let long : length ends ≡ length (session_extents leg) = length-map (session_extents leg)
      (λ (extent : Extent). (extent.to, extent.frame)) in
      let a = slice_get-map end_of (placed_frames leg) n ∙ ap (option_map end_of) one in
      let found = last-part ends waiting_ends n (placed.to, placed.frame)
      (sym (ap (λ l. slice_get l n) leg-ends) ∙ a) (omega arith) in
      waiting-behind (size (session_pieces leg)) (session_waiting leg) found.0 (placed.to, placed.frame) found.1

-- ---- A client that keeps to a bucket: how far the stream is filled, so that no frame is refused or waits long.
-- ---- how far a stream is filled
next_by-filled : (waiting : List (List ℕ)) (pieces : List Piece) →
    filled (next_by waiting pieces) ≤ max (filled (record { pieces = pieces; waiting = waiting })) (size pieces + 4)
next_by-filled [] pieces =
    let sums = sum_by-append size_of pieces (idle ∷ []) in
    let e : size (pieces ++ idle ∷ []) ≡ size pieces + 4 = omega arith in
    omega arith
next_by-filled (frame ∷ waiting) pieces =
    let sums = sum_by-append size_of pieces (client frame ∷ []) in
    let more = sum_by-cons size_of (client frame) (map client waiting) in
    let e : size (pieces ++ client frame ∷ []) ≡ size pieces + size_of (client frame) = omega arith in
    omega arith

-- idles are begun only to reach the place, and each has four octets
reaching-filled : (steps place : ℕ) (stream : Stream) →
    filled (reaching steps place stream) ≤ max (filled stream) (place + 3)
unfolding reaching
reaching-filled zero place stream = omega arith
reaching-filled (suc steps) place stream =
    elim (nat_le place (size stream.pieces))
    as (λ b. nat_le place (size stream.pieces) ≡ b →
    filled (if b then stream else reaching steps place (next_by stream.waiting stream.pieces))
    ≤ max (filled stream) (place + 3)) [
      | true ↦ λ e. omega arith
      | false ↦ λ e.
          let short = leb-false place (size stream.pieces) e in
          let next = next_by-filled stream.waiting stream.pieces in
          let rest = reaching-filled steps place (next_by stream.waiting stream.pieces) in
          omega arith
    ] refl

offered_by-filled : (why : Option AcceptFault) (frame : List ℕ) (stream : Stream) →
    filled (offered_by why frame stream) ≤ filled stream + size_of (client frame)
offered_by-filled None frame stream =
    let sums = sum_by-append size_of (map client stream.waiting) (client frame ∷ []) in
    let maps = ap size (map-append client stream.waiting (frame ∷ [])) in
    omega arith
offered_by-filled (Some why) frame stream = omega arith

offers-filled : (frames : List (List ℕ)) (stream : Stream) →
    filled (fold offered stream frames) ≤ filled stream + size (map client frames)
offers-filled [] stream = omega arith
offers-filled (frame ∷ frames) stream =
    let here = offered_by-filled (frame_refusal frame stream) frame stream in
    let rest = offers-filled frames (offered stream frame) in
    let sum = sum_by-cons size_of (client frame) (map client frames) in
    omega arith

-- ---- the frames that wait are no shorter than the bucket says
abbrev IsLong : ℕ → List ℕ → Type 0
IsLong least frame = least ≤ length frame

next_by-long : (least : ℕ) (waiting : List (List ℕ)) (pieces : List Piece) → All (IsLong least) waiting →
    All (IsLong least) (next_by waiting pieces).waiting
next_by-long least [] pieces long = long
next_by-long least (frame ∷ waiting) pieces long = λ k d inside. long (suc k) d (omega arith)

reaching-long : (least steps place : ℕ) (stream : Stream) → All (IsLong least) stream.waiting →
    All (IsLong least) (reaching steps place stream).waiting
unfolding reaching
reaching-long least zero place stream long = long
reaching-long least (suc steps) place stream long =
    elim (nat_le place (size stream.pieces))
    as (λ b. All (IsLong least) (if b then stream else reaching steps place
    (next_by stream.waiting stream.pieces)).waiting) [
      | true ↦ long
      | false ↦ reaching-long least steps place (next_by stream.waiting stream.pieces)
          (next_by-long least stream.waiting stream.pieces long)
    ]

offered_by-long : (least : ℕ) (why : Option AcceptFault) (frame : List ℕ) (stream : Stream) → least ≤ length frame →
    All (IsLong least) stream.waiting → All (IsLong least) (offered_by why frame stream).waiting
offered_by-long least None frame stream own long =
    All-append (IsLong least) stream.waiting (frame ∷ []) long
    (All-cons (IsLong least) frame [] own (All-nil (IsLong least)))
offered_by-long least (Some why) frame stream own long = long

offers-long : (least : ℕ) (frames : List (List ℕ)) (stream : Stream) → All (IsLong least) frames →
    All (IsLong least) stream.waiting → All (IsLong least) (fold offered stream frames).waiting
offers-long least [] stream each long = long
offers-long least (frame ∷ frames) stream each long =
    offers-long least frames (offered stream frame) (λ k d inside. each (suc k) d (omega arith))
    (offered_by-long least (frame_refusal frame stream) frame stream (each 0 frame (omega arith)) long)

-- so many of them take so many octets
long-size : (least : ℕ) (frames : List (List ℕ)) → All (IsLong least) frames →
    length frames * (least + 8) ≤ size (map client frames)
long-size least [] long = omega arith
long-size least (frame ∷ frames) long =
    let own = long 0 frame (omega arith) in
    let rest = long-size least frames (λ k d inside. long (suc k) d (omega arith)) in
    let sum = sum_by-cons size_of (client frame) (map client frames) in
    let product = suc-mul (length frames) (least + 8) in
    omega arith

-- ---- which of the frames that land are refused
refusal-none : (frame : List ℕ) (stream : Stream) → IsWithin shortest_frame longest_frame (length frame) →
    length stream.waiting < most_waiting → frame_refusal frame stream ≡ None
refusal-none frame stream fits room =
    let low : nat_lt (length frame) shortest_frame ≡ false = le-ltb (length frame) shortest_frame fits.0 in
    let high : nat_lt longest_frame (length frame) ≡ false = le-ltb longest_frame (length frame) fits.1 in
    let some : nat_le most_waiting (length stream.waiting) ≡ false = lt-leb most_waiting (length stream.waiting) room in
    rw (low, high, some) refl

-- a list around the one with a number
split-at : {X : Type 0} (xs : List X) (n : ℕ) (x : X) → slice_get xs n ≡ Some x →
    (rest : List X) × (xs ≡ take n xs ++ x ∷ rest)
split-at [] n x is = absurd (none-some x is)
split-at (y ∷ xs) zero x is = (xs, ap (λ l. l ∷ xs) (same_Some y x is))
split-at (y ∷ xs) (suc n) x is = let rest = split-at xs n x is in (rest.0, ap (λ l. y ∷ l) rest.1)

module _ (bucket : Bucket) (leg : Leg) (from members : ℕ) (keeps : KeepsTo bucket leg from members) where
  abbrev scenario : Scenario
  scenario = scenario_by leg

  abbrev cells : List (Option Told)
  cells = session_of leg

  abbrev before : ℕ → Stream
  before t = stream_before scenario cells t

  -- ---- how far the stream is filled before frame t: since some tick no idle was begun, and eight octets at most were
  -- left then
  record IsFilled (t : ℕ) : Type 0 where
    since : ℕ
    ticks : ℕ
    low : from ≤ since
    sum : since + ticks ≡ t
    fits : filled (before t) + leg.config.size * members * ticks ≤ place_after leg t + 8
        + arrivals_in scenario since ticks

  filled-first : IsFilled from
  unfolding arrivals_in
  filled-first =
      let left = keeps.little_left in
      let none = ap (λ waiting. size (map client waiting)) keeps.none_waits in
      record {
        since = from;
        ticks = 0;
        low = omega arith;
        sum = omega arith;
        fits = omega arith;
      }

  filled-next : (t : ℕ) → from ≤ t → t < leg.config.ticks → IsFilled t → IsFilled (suc t)
  unfolding stream_before place_of arrivals_in
  filled-next t low high is =
      let frames = frames_at scenario t in
      let place : ℕ = place_of scenario cells (suc t) in
      let next = reaching-filled place place (fold offered (before t) frames) in
      let land = offers-filled frames (before t) in
      let wide = mul-le-mul_left leg.config.size (keeps.carries t low high) in
      let fits = is.fits in
      elim (cases_lt (filled (before t) + arrivals scenario t) (place + 4)) [
        | inl idles ↦ record { since = suc t; ticks = 0; low = omega arith; sum = omega arith; fits = omega arith }
        | inr frames_alone ↦
            let more = mul-suc (leg.config.size * members) is.ticks in
            let last : arrivals scenario (is.since + is.ticks) ≡ arrivals scenario t =
            ap (arrivals scenario) is.sum in
            let sum = is.sum in
            record { since = is.since; ticks = suc is.ticks; low = is.low; sum = omega arith; fits = omega arith }
      ]

  is-filled : (t : ℕ) → from ≤ t → t ≤ leg.config.ticks → IsFilled t
  is-filled zero low high = let e : from ≡ zero = omega arith in subst IsFilled e filled-first
  is-filled (suc t) low high =
      elim (cases_lt t from) [
        | inl sooner ↦ let e : from ≡ suc t = omega arith in subst IsFilled e filled-first
        | inr later ↦ filled-next t later (omega arith) (is-filled t later (omega arith))
      ]

  -- and once the first of those have landed that land then, with room for the others
  bound : (t : ℕ) (front more : List (List ℕ)) → from ≤ t → t < leg.config.ticks → frames_at scenario t ≡ front ++ more →
      filled (fold offered (before t) front) + size (map client more) ≤ place_after leg t + (bucket.burst + 8)
  unfolding arrivals_in
  bound t front more low high parts =
      let is = is-filled t low (omega arith) in
      let fits = is.fits in
      let sum = is.sum in
      let last : arrivals scenario (is.since + is.ticks) ≡ arrivals scenario t = ap (arrivals scenario) is.sum in
      let maps = ap (λ frames. size (map client frames)) parts
      ∙ ap size (map-append client front more) ∙ sum_by-append size_of (map client front) (map client more) in
      let land = offers-filled front (before t) in
      let kept = keeps.keeps is.since is.ticks is.low (omega arith) in
      let rate = mul-le-mul_right is.ticks keeps.rate in
      omega arith

  pub bucket-backlog : (t : ℕ) → from ≤ t → t < leg.config.ticks →
      filled (stream_at scenario cells t) ≤ place_after leg t + (bucket.burst + 8)
  bucket-backlog t low high =
      let all = bound t (frames_at scenario t) [] low high (sym (append-nil (frames_at scenario t))) in
      omega arith

  -- ---- no frame is refused
  is-long : (t : ℕ) → from ≤ t → t ≤ leg.config.ticks → All (IsLong bucket.shortest) (before t).waiting
  unfolding stream_before
  is-long zero low high =
      let e : from ≡ zero = omega arith in
      subst (λ t. All (IsLong bucket.shortest) (before t).waiting) e
      (subst (All (IsLong bucket.shortest)) (sym keeps.none_waits) (All-nil (IsLong bucket.shortest)))
  is-long (suc t) low high =
      elim (cases_lt t from) [
        | inl sooner ↦
            let e : from ≡ suc t = omega arith in
            subst (λ t. All (IsLong bucket.shortest) (before t).waiting) e
            (subst (All (IsLong bucket.shortest)) (sym keeps.none_waits) (All-nil (IsLong bucket.shortest)))
        | inr later ↦
            let place = place_of scenario cells (suc t) in
            reaching-long bucket.shortest place place (fold offered (before t) (frames_at scenario t))
            (offers-long bucket.shortest (frames_at scenario t) (before t)
            (λ k d inside. (keeps.lengths t later (omega arith) k d inside).0)
            (is-long t later (omega arith)))
      ]

  pub bucket-accepts : (t : ℕ) (front : List (List ℕ)) (frame : List ℕ) (more : List (List ℕ)) → from ≤ t →
      t < leg.config.ticks → frames_at scenario t ≡ front ++ frame ∷ more →
      frame_refusal frame (fold offered (before t) front) ≡ None
  bucket-accepts t front frame more low high parts =
      let stream = fold offered (before t) front in
      let each = subst (All (λ (frame : List ℕ). IsWithin bucket.shortest longest_frame (length frame))) parts
      (keeps.lengths t low high) in
      let own = All-after (λ (frame : List ℕ). IsWithin bucket.shortest longest_frame (length frame)) front
      (frame ∷ more) each 0 frame (omega arith) in
      let long = offers-long bucket.shortest front (before t)
      (λ k d inside. (All-front (λ (frame : List ℕ). IsWithin bucket.shortest longest_frame (length frame)) front
      (frame ∷ more) each k d inside).0) (is-long t low (omega arith)) in
      let takes = long-size bucket.shortest stream.waiting long in
      let fits = bound t front (frame ∷ more) low high parts in
      let sum = sum_by-cons size_of (client frame) (map client more) in
      let reach = stream_before-reaches scenario cells t in
      let pieces = ap size (offered_all-pieces front (before t)) in
      let least = keeps.shortest in
      let burst = keeps.burst in
      refusal-none frame stream (omega arith, own.1)
      (elim (cases_lt (length stream.waiting) most_waiting) [
        | inl room ↦ room
        | inr full ↦
            let product = mul-le-mul_right (bucket.shortest + 8) full in
            absurd (omega arith)
      ])

  pub bucket-refused : (count : ℕ) (item : Numbered) (offer : DueFrame) → IsOfferAt leg.items count item offer →
      from ≤ offer.due → offer.due < leg.config.ticks → refusal_at leg item ≡ None
  bucket-refused count item offer at low high =
      let frame_of = λ (offer : DueFrame). offer.frame in
      let (there, earlier) = offer-at leg.items count item offer at in
      let comes = comes_at offer.due in
      let offers : List DueFrame = scenario.offers in
      let (rest, parts) = split-at offers count offer there in
      let here : comes offer ≡ true = grind (arith, nat_tests) in
      let kept : filter comes (offer ∷ rest) ≡ offer ∷ filter comes rest = rw here refl in
      let front : List (List ℕ) = map frame_of (filter comes (take count offers)) in
      let lands : frames_at scenario offer.due ≡ front ++ offer.frame ∷ map frame_of (filter comes rest) =
      ap (λ l. map frame_of (filter comes l)) parts
      ∙ ap (map frame_of) (filter-append comes (take count offers) (offer ∷ rest)
      ∙ ap (λ l. filter comes (take count offers) ++ l) kept)
      ∙ map-append frame_of (filter comes (take count offers)) (offer ∷ filter comes rest) in
      offer-refusal scenario cells item.item.due (take item.number leg.items) item.item.kind offer at.is
      ∙ ap (λ l. option_map frame_fault (frame_refusal offer.frame (stream_met scenario cells offer.due l))) earlier
      ∙ ap (option_map frame_fault)
      (bucket-accepts offer.due front offer.frame (map frame_of (filter comes rest)) low high lands)

  -- ---- where they end
  abbrev EndsSoon : Placed → Type 0
  EndsSoon placed = from ≤ placed.due → placed.to ≤ place_after leg placed.due + (bucket.burst + 8)

  offers-soon : (t most : ℕ) (offers : List DueFrame) (stream : Stream) →
      most ≡ place_after leg t + (bucket.burst + 8) →
      filled stream + size (map client (map (λ (offer : DueFrame). offer.frame) offers)) ≤ most →
      All (λ (offer : DueFrame). comes_at t offer ≡ true) offers → All EndsSoon (placed_offers stream offers)
  offers-soon t most [] stream is fits come = All-nil EndsSoon
  offers-soon t most (offer ∷ offers) stream is fits come =
      let here : comes_at t offer ≡ true = come 0 offer (omega arith) in
      let due : offer.due ≡ t = grind (arith, nat_tests, here) in
      let sum = sum_by-cons size_of (client offer.frame)
      (map client (map (λ (offer : DueFrame). offer.frame) offers)) in
      let land = offered_by-filled (frame_refusal offer.frame stream) offer.frame stream in
      let soon : EndsSoon (placed_by stream offer) =
      subst (λ n. from ≤ n → filled stream + size_of (client offer.frame) ≤ place_after leg n + (bucket.burst + 8))
      (sym due) (λ low. omega arith) in
      kept-all EndsSoon (frame_refusal offer.frame stream) (placed_by stream offer)
      (placed_offers (offered stream offer.frame) offers) soon
      (offers-soon t most offers (offered stream offer.frame) is (omega arith)
      (λ k d inside. come (suc k) d (omega arith)))

  -- those that landed sooner say nothing
  offers-sooner : (t : ℕ) (offers : List DueFrame) (stream : Stream) → t < from →
      All (λ (offer : DueFrame). comes_at t offer ≡ true) offers → All EndsSoon (placed_offers stream offers)
  offers-sooner t [] stream early come = All-nil EndsSoon
  offers-sooner t (offer ∷ offers) stream early come =
      let here : comes_at t offer ≡ true = come 0 offer (omega arith) in
      let due : offer.due ≡ t = grind (arith, nat_tests, here) in
      kept-all EndsSoon (frame_refusal offer.frame stream) (placed_by stream offer)
      (placed_offers (offered stream offer.frame) offers) (λ low. absurd (omega arith))
      (offers-sooner t offers (offered stream offer.frame) early (λ k d inside. come (suc k) d (omega arith)))

  placed-soon : (t : ℕ) → t ≤ leg.config.ticks → All EndsSoon (placed_before scenario cells t)
  unfolding placed_before
  placed-soon zero high = All-nil EndsSoon
  placed-soon (suc t) high =
      let come = filter (comes_at t) scenario.offers in
      All-append EndsSoon (placed_before scenario cells t) (placed_offers (before t) come) (placed-soon t (omega arith))
      (elim (cases_lt t from) [
        | inl sooner ↦ offers-sooner t come (before t) sooner (filter_passes (comes_at t) scenario.offers)
        | inr later ↦ offers-soon t (place_after leg t + (bucket.burst + 8)) come (before t) refl
            (bound t [] (frames_at scenario t) later (omega arith) refl)
            (filter_passes (comes_at t) scenario.offers)
      ])

  -- ---- the rows that carry them
  place-grows : (t rows : ℕ) → from ≤ t → t + rows ≤ leg.config.ticks →
      place_after leg t + leg.config.size * members * rows ≤ place_after leg (t + rows)
  unfolding place_of
  place-grows t zero low high = let e : t + zero ≡ t = omega arith in rw e (omega arith)
  place-grows t (suc rows) low high =
      let e : t + suc rows ≡ suc (t + rows) = omega arith in
      let rest = place-grows t rows low (omega arith) in
      let wide = mul-le-mul_left leg.config.size (keeps.carries (t + rows) (omega arith) (omega arith)) in
      let more = mul-suc (leg.config.size * members) rows in
      rw e (omega arith)

  place-rises : (t more : ℕ) → place_after leg t ≤ place_after leg (t + more)
  unfolding place_of
  place-rises t zero = let e : t + zero ≡ t = omega arith in rw e (omega arith)
  place-rises t (suc more) =
      let e : t + suc more ≡ suc (t + more) = omega arith in
      let rest = place-rises t more in
      rw e (omega arith)

  pub bucket-delay : (n : ℕ) (placed : Placed) (rows : ℕ) → slice_get (placed_frames leg) n ≡ Some placed →
      from ≤ placed.due → bucket.burst + 8 ≤ leg.config.size * members * rows →
      placed.due + rows ≤ leg.config.ticks → LiesIn leg n placed.due (placed.due + rows)
  bucket-delay n placed rows one low enough high =
      let soon = at-number EndsSoon (placed_frames leg) n placed (placed-soon leg.config.ticks (omega arith)) one low in
      let grows = place-grows placed.due rows low high in
      let last : placed.due + rows + (leg.config.ticks - (placed.due + rows)) ≡ leg.config.ticks = omega arith in
      let rises : place_after leg (placed.due + rows) ≤ place_after leg leg.config.ticks =
      rw last at (place-rises (placed.due + rows) (leg.config.ticks - (placed.due + rows))) in
      let reach = stream_before-reaches scenario cells leg.config.ticks in
      elim (cases_lt n (length (session_extents leg))) [
        | inr behind ↦ absurd (let beyond = place-waits leg n placed one behind in omega arith)
        | inl inside ↦
            let extent : Extent = get_or (session_extents leg) n (record { from = 0; to = 0; frame = [] }) in
            let is = slice_get-get_or (session_extents leg) n (record { from = 0; to = 0; frame = [] }) inside in
            let to = (place-settled leg n placed extent one is).1 in
            record {
              extent = extent;
              is = is;
              begins = place-begins leg n placed extent one is;
              ends = omega arith;
            }
      ]
