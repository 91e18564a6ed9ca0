-- Reaching a place of a linear stream: which pieces are begun, what stands, and what was sent up to it.
use Rattle.std.proofs.Common.{◌≡◌, ℕ, zero, suc, ◌+◌, ◌≤◌, ◌<◌, subst, List, [], Option, Some, None, ◌∷◌, ◌++◌, take}
use Rattle.std.proofs.Common.{length, refl, sym, ◌∙◌, arith, append_assoc, append-nil, le-leb, inl, inr, map, ap, drop}
use Rattle.std.proofs.Common.{length-append, length-take-le}
use Rattle.std.proofs.lemmas.Bool.{lt-leb, cases_lt}
use Rattle.std.proofs.lemmas.List.Sums.{sum_by-append, sum-map}
use Rattle.gfp_model.specs.linear_model.Channels.{Channels, turn, oldest, served, pushed}
use Rattle.gfp_model.specs.linear_model.ChannelStream.{LinearPiece, idle, client, size_of, size, Shared, next_by}
use Rattle.gfp_model.specs.linear_model.ChannelStream.{one_more, reaching, reached, IsFewest, area_of, linear_stream}
use Rattle.gfp_model.specs.linear_model.ChannelStream.{offered, unsent, stream_to}
use Rattle.std.proofs.lemmas.List.{map-append}
use Rattle.law_model.proofs.StreamOfPiecesLaws.{length-pieces_behind}
use Rattle.gfp_model.specs.linear_model.ChannelArea.{linear_header, extension_header, linear_area}
use Rattle.gfp_fill.specs.SentAreas.{Sender, StandsIn}
use Rattle.gfp_fill.specs.Multiplex.{IsMultiplex, HasWritten}
use Rattle.gfp_channels.specs.gfp_linear.Queue.{Queued}
use Rattle.gfp_channels.specs.gfp_linear.Filler.{in_turns, LinearFillerStands}
use Rattle.gfp_fill.proofs.SenderAndFillerStepLaws.{written-both, written-none}

-- ---- Reaching a place of the stream: which pieces are begun, that they are the fewest, and that a place can be reached in
-- parts.
-- ---- one more piece, which has four octets at least
piece_of : Option ℕ → Channels → LinearPiece
piece_of None channels = idle
piece_of (Some cid) channels = client cid (oldest cid channels)

next_by-piece : (turn : Option ℕ) (stream : Shared) →
    (next_by turn stream).pieces ≡ stream.pieces ++ piece_of turn stream.channels ∷ []
unfolding piece_of
next_by-piece None stream = refl
next_by-piece (Some cid) stream = refl

one_more-piece : (stream : Shared) →
    (one_more stream).pieces ≡ stream.pieces ++ piece_of (turn stream.channels) stream.channels ∷ []
one_more-piece stream = next_by-piece (turn stream.channels) stream

one_more-size : (stream : Shared) → size stream.pieces + 4 ≤ size (one_more stream).pieces
one_more-size stream =
    let piece : LinearPiece = piece_of (turn stream.channels) stream.channels in
    let last : 4 ≤ size (piece ∷ []) = omega arith in
    rw (one_more-piece stream) (omega (arith, last, sum_by-append size_of stream.pieces (piece ∷ [])))

-- ---- where the place is reached, no piece is begun
pub reaching-here : (steps place : ℕ) (stream : Shared) → place ≤ size stream.pieces →
    reaching steps place stream ≡ stream
unfolding reaching
reaching-here zero place stream h = refl
reaching-here (suc steps) place stream h = rw (le-leb place (size stream.pieces) h) refl

-- more steps than are needed change nothing
reaching-enough : (k m place : ℕ) (stream : Shared) → place ≤ size stream.pieces + k → k ≤ m →
    reaching m place stream ≡ reaching k place stream
unfolding reaching
reaching-enough zero m place stream h more = reaching-here m place stream (omega arith)
reaching-enough (suc k) zero place stream h more = absurd (omega arith)
reaching-enough (suc k) (suc m) place stream h more =
    elim (cases_lt (size stream.pieces) place) [
      | inl short ↦ rw (lt-leb place (size stream.pieces) short)
          (reaching-enough k m place (one_more stream) (omega (arith, one_more-size stream, h)) (omega (arith, more)))
      | inr here ↦ rw (le-leb place (size stream.pieces) here) refl
    ]

-- where it isn't, the next piece is
reached-next_at : (p : ℕ) (stream : Shared) → size stream.pieces < suc p →
    reached (suc p) stream ≡ reached (suc p) (one_more stream)
unfolding reaching
reached-next_at p stream short =
    rw (lt-leb (suc p) (size stream.pieces) short)
    (sym (reaching-enough p (suc p) (suc p) (one_more stream) (omega (arith, one_more-size stream)) (omega arith)))

pub reached-next : (place : ℕ) (stream : Shared) → size stream.pieces < place →
    reached place stream ≡ reached place (one_more stream)
reached-next zero stream short = absurd (omega arith)
reached-next (suc p) stream short = reached-next_at p stream short

-- a place is reached in parts
reached-join_by : (steps sooner later : ℕ) (stream : Shared) → sooner ≤ later →
    reached later (reaching steps sooner stream) ≡ reached later stream
unfolding reaching
reached-join_by zero sooner later stream h = refl
reached-join_by (suc steps) sooner later stream h =
    elim (cases_lt (size stream.pieces) sooner) [
      | inl short ↦ rw (lt-leb sooner (size stream.pieces) short)
          (reached-join_by steps sooner later (one_more stream) h
          ∙ sym (reached-next later stream (omega (arith, short, h))))
      | inr here ↦ rw (le-leb sooner (size stream.pieces) here) refl
    ]

pub reached-join : (sooner later : ℕ) (stream : Shared) → sooner ≤ later →
    reached later (reached sooner stream) ≡ reached later stream
reached-join sooner later stream h = reached-join_by sooner sooner later stream h

-- ---- the pieces are the fewest
fewest-none : (pieces : List LinearPiece) (place : ℕ) → place ≤ size pieces → IsFewest pieces place pieces
fewest-none pieces place here =
    record { more = []; follow = sym (append-nil pieces); reach = here; fewest = λ n h. absurd (omega (arith, h)) }

fewest_next : (before : List LinearPiece) (piece : LinearPiece) (more : List LinearPiece) (place : ℕ) →
    size before < place → ((n : ℕ) → n < length more → size (before ++ piece ∷ [] ++ take n more) < place) → (n : ℕ) →
    n < length (piece ∷ more) → size (before ++ take n (piece ∷ more)) < place
fewest_next before piece more place short rest zero h = let e : before ++ [] ≡ before = append-nil before in rw e short
fewest_next before piece more place short rest (suc n) h = let e = append_assoc before (piece ∷ []) (take n more) in
    rw e at (rest n (omega arith))

fewest-next : (before : List LinearPiece) (piece : LinearPiece) (place : ℕ) (after : List LinearPiece) →
    size before < place → IsFewest (before ++ piece ∷ []) place after → IsFewest before place after
fewest-next before piece place after short next = record {
  more = piece ∷ next.more;
  follow = next.follow ∙ append_assoc before (piece ∷ []) next.more;
  reach = next.reach;
  fewest = fewest_next before piece next.more place short next.fewest;
}

reaching-fewest : (steps place : ℕ) (stream : Shared) → place ≤ size stream.pieces + steps →
    IsFewest stream.pieces place (reaching steps place stream).pieces
unfolding reaching
reaching-fewest zero place stream h = fewest-none stream.pieces place (omega (arith, h))
reaching-fewest (suc steps) place stream h =
    elim (cases_lt (size stream.pieces) place) [
      | inl short ↦ rw (lt-leb place (size stream.pieces) short)
          (fewest-next stream.pieces (piece_of (turn stream.channels) stream.channels) place
          (reaching steps place (one_more stream)).pieces short
          (subst (λ pieces. IsFewest pieces place (reaching steps place (one_more stream)).pieces)
          (one_more-piece stream)
          (reaching-fewest steps place (one_more stream) (omega (arith, one_more-size stream, h)))))
      | inr here ↦ rw (le-leb place (size stream.pieces) here) (fewest-none stream.pieces place here)
    ]

pub reached-fewest : (place : ℕ) (stream : Shared) → IsFewest stream.pieces place (reached place stream).pieces
reached-fewest place stream = reaching-fewest place place stream (omega arith)

-- ---- A queue of channels that take turns: what stands when a frame is begun or offered, and the laws of their stream.
-- a stream has as many octets as its pieces count
pub long : (pieces : List LinearPiece) → length (linear_stream pieces) ≡ size pieces
long pieces = length-pieces_behind area_of [] pieces ∙ sum-map size_of pieces

pub in_turns_laws : IsMultiplex in_turns
in_turns_laws = record {
  here = λ place shared within. reaching-here place place shared (omega (arith, within, long shared.pieces));
  next = λ place shared short. reached-next place shared (omega (arith, short, long shared.pieces));
  reach = λ place shared. omega (arith, (reached-fewest place shared).reach, long (reached place shared).pieces);
  join = reached-join;
  more = λ place shared. let fewest = reached-fewest place shared in
      (map area_of fewest.more, ap (map area_of) fewest.follow ∙ map-append area_of shared.pieces fewest.more);
}

-- the oldest frame of the channel whose turn it is is begun
pub turn_begun : (cid : ℕ) (sender : Sender) (queue rest : Queued) (shared : Shared) (place : ℕ) →
    queue.channels ≡ shared.channels → turn queue.channels ≡ Some cid → rest.begun ≡ oldest cid queue.channels
    → rest.channels ≡ served cid queue.channels
    → StandsIn sender rest.begun
    (map area_of shared.pieces ++ ((linear_header ++ extension_header cid) ++ rest.begun) ∷ []) place
    → LinearFillerStands sender rest (one_more shared) place
turn_begun cid sender queue rest shared place waits is frame channels stands =
    let piece : LinearPiece = client cid (oldest cid shared.channels) in
    let area : (linear_header ++ extension_header cid) ++ rest.begun ≡ area_of piece =
    append_assoc linear_header (extension_header cid) rest.begun
    ∙ ap (linear_area cid) (frame ∙ ap (oldest cid) waits) in
    subst (λ (t : Option ℕ). LinearFillerStands sender rest (next_by t shared) place) (sym is ∙ ap turn waits)
    (record {
      waits = channels ∙ ap (served cid) waits;
      octets = subst (λ areas. StandsIn sender rest.begun areas place)
          (ap (λ l. map area_of shared.pieces ++ l ∷ []) area ∙ sym (map-append area_of shared.pieces (piece ∷ [])))
          stands;
    })

-- a frame is offered
pub offered_stands : (cid : ℕ) (frame : List ℕ) (sender : Sender) (queue more : Queued) (shared : Shared) (place : ℕ) →
    more.begun ≡ queue.begun → more.channels ≡ pushed cid frame queue.channels →
    LinearFillerStands sender queue shared place → LinearFillerStands sender more (offered cid frame shared) place
offered_stands cid frame sender queue more shared place begun channels stands = record {
  waits = channels ∙ ap (pushed cid frame) stands.waits;
  octets = subst (λ left. StandsIn sender left (map area_of shared.pieces) place) (sym begun) stands.octets;
}

-- ---- The octets of a stream up to a place.
pub stream-long : (place : ℕ) (channels : Channels) → length (stream_to place channels) ≡ place
stream-long place channels =
    let all = (reached place (unsent channels)).pieces in
    let reach = (reached-fewest place (unsent channels)).reach in
    length-take-le place (linear_stream all) (omega (arith, long all, reach))

-- so many octets were written
abbrev pub HasSent : Sender → Queued → Channels → ℕ → Type 0
HasSent sender queue channels place = HasWritten in_turns sender queue (unsent channels) 0 (stream_to place channels)

-- none
pub sent-none : (sender : Sender) (queue : Queued) (channels : Channels) → LinearFillerStands sender queue (unsent channels) 0
    → HasSent sender queue channels 0
sent-none sender queue channels stands =
    written-none in_turns in_turns_laws sender queue (unsent channels) 0 stands

-- and more
pub sent-more : (s t : Sender) (queue rest : Queued) (channels : Channels) (place n : ℕ) (octets : List ℕ)
    → HasSent s queue channels place → length octets ≡ n
    → LinearFillerStands t rest (reached (place + n) (reached place (unsent channels))) (place + n)
    → octets ≡ take n (drop place (linear_stream (reached (place + n) (reached place (unsent channels))).pieces))
    → HasSent t rest channels (place + n) × (stream_to place channels ++ octets ≡ stream_to (place + n) channels)
sent-more s t queue rest channels place n octets was count stands next =
    let first : List ℕ = stream_to place channels in
    let size : 0 + length first ≡ place = omega (arith, stream-long place channels) in
    let written : HasWritten in_turns t rest (reached place (unsent channels)) place octets = record {
      stands = subst (λ k. LinearFillerStands t rest (reached (place + k) (reached place (unsent channels))) (place + k))
          (sym count) stands;
      next = subst (λ k. octets ≡ take k
          (drop place (linear_stream (reached (place + k) (reached place (unsent channels))).pieces)))
          (sym count) next;
    } in
    let both : HasWritten in_turns t rest (unsent channels) 0 (first ++ octets) =
    written-both in_turns in_turns_laws s t queue rest (unsent channels) 0 first octets was
    (subst (λ k. HasWritten in_turns t rest (reached k (unsent channels)) k octets) (sym size) written) in
    let all : 0 + length (first ++ octets) ≡ place + n =
    omega (arith, length-append first octets, size, count) in
    let same : first ++ octets ≡ stream_to (place + n) channels =
    both.next
    ∙ ap (λ k. take (length (first ++ octets)) (linear_stream (reached k (unsent channels)).pieces)) all
    ∙ ap (λ k. take k (linear_stream (reached (place + n) (unsent channels)).pieces))
    (let long : length (first ++ octets) ≡ place + n = omega (arith, all) in long) in
    (subst (HasWritten in_turns t rest (unsent channels) 0) same both, same)

-- where they stand
pub sent-stands : (s : Sender) (queue : Queued) (channels : Channels) (place : ℕ) → HasSent s queue channels place
    → LinearFillerStands s queue (reached place (unsent channels)) place
sent-stands s queue channels place was =
    let size : 0 + length (stream_to place channels) ≡ place = omega (arith, stream-long place channels) in
    subst (λ k. LinearFillerStands s queue (reached k (unsent channels)) k) size was.stands

-- a block more, of as many octets as a slice had
pub sent-block : (s t : Sender) (queue rest : Queued) (channels : Channels) (place n room : ℕ) (octets : List ℕ)
    → HasSent s queue channels place → room ≡ n → length octets ≡ n
    → ((shared : Shared) (at : ℕ) → LinearFillerStands s queue shared at → LinearFillerStands t rest (reached (at + room) shared) (at + room))
    → ((shared : Shared) (at : ℕ) → LinearFillerStands s queue shared at
    → octets ≡ take room (drop at (linear_stream (reached (at + room) shared).pieces)))
    → HasSent t rest channels (place + n) × (stream_to place channels ++ octets ≡ stream_to (place + n) channels)
sent-block s t queue rest channels place n room octets was size count stands next =
    let shared : Shared = reached place (unsent channels) in
    let here = sent-stands s queue channels place was in
    sent-more s t queue rest channels place n octets was count
    (subst (λ k. LinearFillerStands t rest (reached (place + k) shared) (place + k)) size (stands shared place here))
    (subst (λ k. octets ≡ take k (drop place (linear_stream (reached (place + k) shared).pieces))) size
    (next shared place here))
