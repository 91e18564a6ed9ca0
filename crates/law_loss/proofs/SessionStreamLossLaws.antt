-- The pieces and rows of a session's stream, where its segments begin, and what its losses leave.
use Rattle.std.proofs.Common.{◌≡◌, ℕ, zero, suc, ◌+◌, ◌-◌, ◌*◌, ◌<◌, ◌≤◌, List, [], ◌∷◌, ◌++◌, map, length, take, drop}
use Rattle.std.proofs.Common.{All, Option, Some, None, refl, sym, ◌∙◌, ap, subst, arith, append_assoc, append-nil}
use Rattle.std.proofs.Common.{take-append-drop, length-take-le, take-add, ◌/◌, ◌^◌, ◌||◌, nat_lt, nat_le, Bool, true}
use Rattle.std.proofs.Common.{inl, inr, filter, slice_index_or, ap₂, ◌⊎◌, false, length-append, length-take, IfSome}
use Rattle.std.proofs.Common.{option_map, flat_map, drop_at}
use Rattle.std.proofs.lemmas.List.Elements.{All-nil, All-cons, All-head, All-tail, All-append, All-filter, All-map}
use Rattle.std.proofs.lemmas.List.Elements.{All-weaker}
use Rattle.law_model.proofs.ListLaws.{within-append, All-front, drop-part, All-after}
use Rattle.law_model.specs.Common.{Piece, idle, area_of, joined, stream_of, Scenario, Told, kept_by, accepted_of}
use Rattle.law_model.specs.Common.{width, place_of, stream_before, octets_of_rows, payload_of, rows_of, client}
use Rattle.law_model.specs.Common.{size_of, frames_by, are_whole, is_good, is_readable, DueFrame, comes_at, carried_by}
use Rattle.law_model.specs.Common.{is_read, is_heard, active, table_of, Stream, frame_refusal, offered, frames_in}
use Rattle.law_model.specs.Common.{accepted_offers, offers_before, frames_before, is_whole_row, deliver, extents}
use Rattle.law_model.specs.Common.{TrueStarts, frames_kept, longest_frame, head, core_header, IsPli, with_header}
use Rattle.law_model.specs.Common.{Confirmed, header_at, confirm_with, hunt_within, hunt, Segment, Segments}
use Rattle.law_model.specs.Common.{segments_on, segments_of, segments, confirmed_in, IsPlaceOfPiece}
use Rattle.law_model.specs.rows.SessionStream.{row_of}
use Rattle.law_model.proofs.StreamOfPiecesLaws.{stream_of-append, stream_behind, length-with_header}
use Rattle.law_model.proofs.StreamOfPiecesLaws.{length-stream_behind}
use Rattle.law_session.proofs.ClientStreamAndReplayLaws.{stream-reaches, stream_before-fewest, stream_before-frames}
use Rattle.law_loss.specs.CarriedStream.{CarriesStream, IsSentFrame, IsSentPiece, AreOctets, IsUndamaged}
use Rattle.law_loss.proofs.SegmentsOfAddedRowsLaws.{octets-push, IsPart, Stands-all, segments_of-push}
use Rattle.std.specs.List.{list_any, list_all}
use Rattle.std.proofs.lemmas.Bool.{cases_Bool, or_parts, ltb-false, le-leb, lt-leb, cases_lt}
use Rattle.law_model.specs.declared.item_refusals.AcceptFault.TheVariants.{Length}
use Rattle.law_model.specs.declared.window_types.Window.{Window}
use Rattle.law_model.specs.members.Damage.{carried}
use Rattle.law_loss.proofs.GivenAndLostFrameLaws.{deliver-kept, IsWhole, deliver-whole, sendable_of}
use Rattle.law_loss.proofs.ClientFrameExtentLaws.{frames_ended, all_frames, frames_to-first}
use Rattle.law_model.specs.frames.Segment.{row_by}
use Rattle.law_model.proofs.CoreHeaderLaws.{length-core_header}
use Rattle.law_model.proofs.ScrambledBitAndAreaLaws.{scrambled_behind, map-length-scrambled_behind}
use Rattle.gfp_delineate.proofs.WholeAreaDeliveryLaws.{take-append, header_at-core}
use Rattle.gfp_delineate.proofs.HuntAndFollowLaws.{no_header}
use Rattle.gfp_delineate.proofs.WholeAreaDeliveryLaws.{IsSendable, IsPli-area_of, fits-scrambled}
use Rattle.law_loss.proofs.SegmentHuntAndRunLaws.{hunt_within-few}

-- ---- The rows of a session carry the first octets of its stream, whose client frames are accepted ones.
-- ---- the pieces of a later frame begin with those of an earlier one
abbrev pub Begins : List Piece → List Piece → Type 0
Begins front whole = (more : List Piece) × (whole ≡ front ++ more)

pieces-later : (scenario : Scenario) (cells : List (Option Told)) (t i : ℕ) →
    Begins (stream_before scenario cells t).pieces (stream_before scenario cells (i + t)).pieces
pieces-later scenario cells t zero = (
  [],
  (let e : zero + t ≡ t = omega arith in ap (λ n. (stream_before scenario cells n).pieces) e
      ∙ sym (append-nil (stream_before scenario cells t).pieces)),
)
pieces-later scenario cells t (suc i) =
    let before = pieces-later scenario cells t i in
    let next = stream_before-fewest scenario cells (i + t) in
    let e : suc i + t ≡ suc (i + t) = omega arith in (
      before.0 ++ next.more,
      ap (λ n. (stream_before scenario cells n).pieces) e ∙ next.follow ∙ ap (λ front. front ++ next.more) before.1
          ∙ append_assoc (stream_before scenario cells t).pieces before.0 next.more,
    )

pub pieces-begin : (scenario : Scenario) (cells : List (Option Told)) (t n : ℕ) → t ≤ n →
    Begins (stream_before scenario cells t).pieces (stream_before scenario cells n).pieces
pieces-begin scenario cells t n low =
    let later = pieces-later scenario cells t (n - t) in
    let e : n - t + t ≡ n = omega arith in
    (later.0, ap (λ n. (stream_before scenario cells n).pieces) (sym e) ∙ later.1)

opening-pieces : (scenario : Scenario) (cells : List (Option Told)) →
    (stream_before scenario cells zero).pieces ≡ idle ∷ idle ∷ []
unfolding stream_before
opening-pieces scenario cells = refl

-- two idles come first
pub pieces-open : (scenario : Scenario) (cells : List (Option Told)) (n : ℕ) → (more : List Piece) ×
    ((stream_before scenario cells n).pieces ≡ idle ∷ idle ∷ more)
pieces-open scenario cells n =
    let begins = pieces-begin scenario cells zero n (omega arith) in
    (begins.0, begins.1 ∙ ap (λ front. front ++ begins.0) (opening-pieces scenario cells))

-- ---- the octets of rows
stream-begins : (front whole : List Piece) → Begins front whole → (rest : List ℕ) ×
    (stream_of whole ≡ stream_of front ++ rest)
stream-begins front whole begins =
    (stream_behind (joined (map area_of front)) begins.0, ap stream_of begins.1 ∙ stream_of-append front begins.0)

payload-part : (scenario : Scenario) (cells : List (Option Told)) (t n : ℕ) → t < n →
    payload_of scenario cells t ≡ take (scenario.size * width scenario cells t)
    (drop (place_of scenario cells t) (stream_of (stream_before scenario cells n).pieces))
unfolding place_of
payload-part scenario cells t n low =
    let front = stream_of (stream_before scenario cells (suc t)).pieces in
    let whole = stream-begins (stream_before scenario cells (suc t)).pieces (stream_before scenario cells n).pieces
    (pieces-begin scenario cells (suc t) n (omega arith)) in
    let reaches = stream-reaches scenario cells (suc t) in
    sym (within-append (place_of scenario cells t) (scenario.size * width scenario cells t) front whole.0 reaches)
    ∙ ap (λ octets. take (scenario.size * width scenario cells t) (drop (place_of scenario cells t) octets))
    (sym whole.1)

pub rows-octets : (scenario : Scenario) (cells : List (Option Told)) (t n : ℕ) → t ≤ n →
    octets_of_rows (rows_of scenario cells t) ≡ take (place_of scenario cells t)
    (stream_of (stream_before scenario cells n).pieces)
unfolding rows_of place_of
rows-octets scenario cells zero n low = refl
rows-octets scenario cells (suc t) n low =
    let whole = stream_of (stream_before scenario cells n).pieces in
    octets-push (rows_of scenario cells t) (row_of scenario cells t)
    ∙ ap (λ front. front ++ payload_of scenario cells t) (rows-octets scenario cells t n (omega arith))
    ∙ ap (λ back. take (place_of scenario cells t) whole ++ back) (payload-part scenario cells t n (omega arith))
    ∙ sym (take-add (place_of scenario cells t) (scenario.size * width scenario cells t) whole)

pub rows-carry : (scenario : Scenario) (cells : List (Option Told)) (t n : ℕ) → t ≤ n →
    CarriesStream (rows_of scenario cells t) (stream_before scenario cells n).pieces
rows-carry scenario cells t n low =
    let whole = stream_of (stream_before scenario cells n).pieces in
    record {
      rest = drop (place_of scenario cells t) whole;
      stream = sym (take-append-drop (place_of scenario cells t) whole)
          ∙ ap (λ front. front ++ drop (place_of scenario cells t) whole) (sym (rows-octets scenario cells t n low));
    }

place-rises : (scenario : Scenario) (cells : List (Option Told)) (t i : ℕ) →
    place_of scenario cells t ≤ place_of scenario cells (i + t)
unfolding place_of
place-rises scenario cells t zero = let e : zero + t ≡ t = omega arith in
    subst (λ n. place_of scenario cells t ≤ place_of scenario cells n) (sym e) (omega arith)
place-rises scenario cells t (suc i) =
    let e : suc i + t ≡ suc (i + t) = omega arith in
    let before = place-rises scenario cells t i in
    let more : place_of scenario cells t ≤ place_of scenario cells (i + t) + scenario.size * width scenario cells
    (i + t) = omega arith in
    subst (λ n. place_of scenario cells t ≤ place_of scenario cells n) (sym e) more

pub rows-length : (scenario : Scenario) (cells : List (Option Told)) (t n : ℕ) → t ≤ n →
    length (octets_of_rows (rows_of scenario cells t)) ≡ place_of scenario cells t
rows-length scenario cells t n low =
    let whole = stream_of (stream_before scenario cells n).pieces in
    let e : n - t + t ≡ n = omega arith in
    let rises : place_of scenario cells t ≤ place_of scenario cells n =
    subst (λ k. place_of scenario cells t ≤ place_of scenario cells k) e
    (place-rises scenario cells t (n - t)) in
    let reaches = stream-reaches scenario cells n in
    ap length (rows-octets scenario cells t n low) ∙ length-take-le (place_of scenario cells t) whole (omega arith)

-- ---- accepted frames
-- what is accepted passes the test by which the others are refused
pub All-accepted : {S X W : Type 0} (P Q : X → Type 0) (refusal : X → S → Option W) (next : S → X → S) →
    ((x : X) (s : S) → refusal x s ≡ None → Q x → P x) →
    (s : S) (xs : List X) → All Q xs → All P (accepted_of refusal next s xs)
All-accepted P Q refusal next keeps s [] each = All-nil P
All-accepted P Q refusal next keeps s (x ∷ xs) each =
    by (refusal x s) refl (All-head Q x xs each)
    (All-accepted P Q refusal next keeps (next s x) xs (All-tail Q x xs each))
  where
    by : (found : Option _) → refusal x s ≡ found → Q x → All P (accepted_of refusal next (next s x) xs) →
        All P (kept_by found x (accepted_of refusal next (next s x) xs))
    by None is here rest = All-cons P x _ (keeps x s is here) rest
    by (Some why) is here rest = rest

-- ---- The laws of losses in a session: its pieces may be sent, so the frames that are delivered are those that are carried
-- and aren't lost.
-- ---- accepted frames may be sent
abbrev pub IsOffered : DueFrame → Type 0
IsOffered offer = All (λ octet. octet < 2 ^ 8) offer.frame

abbrev pub IsSentOffer : DueFrame → Type 0
IsSentOffer offer = IsSentFrame longest_frame offer.frame

not_refused : (frame : List ℕ) (stream : Stream) → frame_refusal frame stream ≡ None → (64 ≤ length frame) ×
    (length frame ≤ longest_frame)
not_refused frame stream none =
    elim (cases_Bool (nat_lt (length frame) 64 || nat_lt longest_frame (length frame))) [
      | inl wrong ↦ absurd (let e : Some (Length (length frame)) ≡ None = rw wrong at none in cc)
      | inr right ↦
          let parts = or_parts (nat_lt (length frame) 64) (nat_lt longest_frame (length frame)) right in
          (ltb-false (length frame) 64 parts.0, ltb-false longest_frame (length frame) parts.1)
    ]

accepted-sent : (offer : DueFrame) (stream : Stream) → frame_refusal offer.frame stream ≡ None → IsOffered offer →
    IsSentOffer offer
accepted-sent offer stream none octets =
    let size = not_refused offer.frame stream none in
    record { most = size.1; least = (let least = size.0 in omega arith); octets = octets }

offers-sent : (scenario : Scenario) (cells : List (Option Told)) → AreOctets scenario → (t : ℕ) →
    All IsSentOffer (offers_before scenario cells t)
unfolding offers_before
offers-sent scenario cells octets zero = All-nil IsSentOffer
offers-sent scenario cells octets (suc t) =
    All-append IsSentOffer (offers_before scenario cells t)
    (accepted_offers (stream_before scenario cells t) (filter (comes_at t) scenario.offers))
    (offers-sent scenario cells octets t)
    (All-accepted IsSentOffer IsOffered (λ offer stream. frame_refusal offer.frame stream)
    (λ stream offer. offered stream offer.frame) accepted-sent
    (stream_before scenario cells t) (filter (comes_at t) scenario.offers)
    (All-filter (comes_at t) IsOffered scenario.offers octets))

frames-sent : (offers : List DueFrame) → All IsSentOffer offers →
    All (IsSentFrame longest_frame) (map (λ (offer : DueFrame). offer.frame) offers)
frames-sent [] each = All-nil (IsSentFrame longest_frame)
frames-sent (offer ∷ offers) each =
    All-cons (IsSentFrame longest_frame) offer.frame (map (λ (o : DueFrame). o.frame) offers)
    (All-head IsSentOffer offer offers each) (frames-sent offers (All-tail IsSentOffer offer offers each))

pieces-of_frames : (pieces : List Piece) → All (IsSentFrame longest_frame) (frames_in pieces) → All (IsSentPiece longest_frame) pieces
pieces-of_frames [] each = All-nil (IsSentPiece longest_frame)
pieces-of_frames (idle ∷ pieces) each = All-cons (IsSentPiece longest_frame) idle pieces tt (pieces-of_frames pieces each)
pieces-of_frames (client frame ∷ pieces) each =
    All-cons (IsSentPiece longest_frame) (client frame) pieces (All-head (IsSentFrame longest_frame) frame (frames_in pieces) each)
    (pieces-of_frames pieces (All-tail (IsSentFrame longest_frame) frame (frames_in pieces) each))

pub pieces-sent : (scenario : Scenario) (cells : List (Option Told)) (n : ℕ) → AreOctets scenario →
    All (IsSentPiece longest_frame) (stream_before scenario cells n).pieces
pieces-sent scenario cells n octets =
    let stream = stream_before scenario cells n in
    let all : All (IsSentFrame longest_frame) (frames_in stream.pieces ++ stream.waiting) =
    subst (All (IsSentFrame longest_frame)) (sym (stream_before-frames scenario cells n))
    (frames-sent (offers_before scenario cells n) (offers-sent scenario cells octets n)) in
    pieces-of_frames stream.pieces (All-front (IsSentFrame longest_frame) (frames_in stream.pieces) stream.waiting all)

-- those after the two idles
rest-sent : (pieces more : List Piece) → pieces ≡ idle ∷ idle ∷ more → All (IsSentPiece longest_frame) pieces →
    All (IsSentPiece longest_frame) more
rest-sent pieces more is all =
    All-tail (IsSentPiece longest_frame) idle more
    (All-tail (IsSentPiece longest_frame) idle (idle ∷ more) (subst (All (IsSentPiece longest_frame)) is all))

-- ---- losses
pub session-kept : (scenario : Scenario) (cells : List (Option Told)) (t n : ℕ) → AreOctets scenario → t ≤ n →
    TrueStarts (stream_before scenario cells n).pieces (rows_of scenario cells t) →
    deliver longest_frame (rows_of scenario cells t) ≡ frames_kept (stream_before scenario cells n).pieces
    (rows_of scenario cells t)
session-kept scenario cells t n octets low starts =
    let rows = rows_of scenario cells t in
    let pieces = (stream_before scenario cells n).pieces in
    let opens = pieces-open scenario cells n in
    let sent = rest-sent pieces opens.0 opens.1 (pieces-sent scenario cells n octets) in
    let carried : CarriesStream rows (idle ∷ idle ∷ opens.0) =
    subst (CarriesStream rows) opens.1 (rows-carry scenario cells t n low) in
    let true_starts : TrueStarts (idle ∷ idle ∷ opens.0) rows = subst (λ ps. TrueStarts ps rows) opens.1 starts in
    deliver-kept longest_frame opens.0 rows (omega arith) sent carried true_starts ∙ ap (λ ps. frames_kept ps rows) (sym opens.1)

-- the client frames among pieces, by their places
pub frames-extents : (start : ℕ) (pieces : List Piece) → all_frames (extents start pieces) ≡ frames_in pieces
unfolding extents
frames-extents start [] = refl
frames-extents start (idle ∷ pieces) = frames-extents (start + size_of idle) pieces
frames-extents start (client frame ∷ pieces) =
    ap (λ frames. frame ∷ frames) (frames-extents (start + size_of (client frame)) pieces)

-- ---- without failures
abbrev pub IsEmpty : List Window → Type 0
IsEmpty windows = windows ≡ []

windows-none : (lists : List (List Window)) → All IsEmpty lists → (line : ℕ) → slice_index_or lists line [] ≡ []
windows-none [] none line = refl
windows-none (windows ∷ lists) none zero = All-head IsEmpty windows lists none
windows-none (windows ∷ lists) none (suc line) = windows-none lists (All-tail IsEmpty windows lists none) line

whole-none : (from count : ℕ) → are_whole (carried []) from count ≡ true
unfolding are_whole carried
whole-none from zero = refl
whole-none from (suc count) = rw (whole-none from count) refl

read-none : (windows : List Window) (k : ℕ) → windows ≡ [] → is_readable (carried windows) k ≡ true
read-none windows k none = ap (λ found. is_readable (carried found) k) none ∙ whole-none (16 * k) 24

heard-none : (lists : List (List Window)) (k : ℕ) → 0 < length lists → All IsEmpty lists →
    list_any (λ windows. is_readable (carried windows) k) lists ≡ true
heard-none [] k some none = absurd (omega arith)
heard-none (windows ∷ lists) k some none =
    ap (λ b. b || list_any (λ found. is_readable (carried found) k) lists)
    (read-none windows k (All-head IsEmpty windows lists none))

pub all-true : (test : ℕ → Bool) (xs : List ℕ) → ((x : ℕ) → test x ≡ true) → list_all test xs ≡ true
all-true test [] each = refl
all-true test (x ∷ xs) each = rw (each x, all-true test xs each) refl

good-none : (scenario : Scenario) (line t : ℕ) → All IsEmpty scenario.windows → 24 ≤ t →
    is_good (carried_by scenario line) t ≡ true
good-none scenario line t none late =
    let two : nat_le 2 t ≡ true = le-leb 2 t (omega arith) in
    ap (λ windows. is_good (carried windows) t) (windows-none scenario.windows none line)
    ∙ rw (two, whole-none (16 * ((t - 2) / 16)) (t + 1 - 16 * ((t - 2) / 16))) refl

pub undamaged-whole : (scenario : Scenario) (cells : List (Option Told)) (t : ℕ) → IsUndamaged scenario →
    is_whole_row scenario cells t ≡ true
undamaged-whole scenario cells t undamaged =
    elim (cases_Bool (nat_lt t 24)) [
      | inl early ↦ rw early refl
      | inr late ↦
          let k : ℕ = (t - 24) / 16 in
          let none = undamaged.none in
          let high = ltb-false t 24 late in
          let heard : is_heard scenario k ≡ true = heard-none scenario.windows k undamaged.some_line none in
          let lines = active (table_of scenario cells k) in
          let read = all-true (λ line. is_read scenario line k) lines
          (λ line. read-none (slice_index_or scenario.windows line []) k (windows-none scenario.windows none line)) in
          let good = all-true (λ line. is_good (carried_by scenario line) t) lines
          (λ line. good-none scenario line t none high) in
          rw (late, heard, read, good) refl
    ]

-- rows are whole by their numbers
pub rows-whole : (scenario : Scenario) (cells : List (Option Told)) (rows : ℕ) →
    ((t : ℕ) → t < rows → is_whole_row scenario cells t ≡ true) → All IsWhole (rows_of scenario cells rows)
unfolding rows_of
rows-whole scenario cells zero each = All-nil IsWhole
rows-whole scenario cells (suc rows) each =
    All-append IsWhole (rows_of scenario cells rows) (row_of scenario cells rows ∷ [])
    (rows-whole scenario cells rows (λ t low. each t (omega arith)))
    (All-cons IsWhole (row_of scenario cells rows) [] (each rows (omega arith)) (All-nil IsWhole))

pub session-hitless : (scenario : Scenario) (cells : List (Option Told)) (t n : ℕ) → AreOctets scenario →
    IsUndamaged scenario → t ≤ n →
    deliver longest_frame (rows_of scenario cells t) ≡ frames_by (place_of scenario cells t)
    (stream_before scenario cells n).pieces
session-hitless scenario cells t n octets undamaged low =
    let rows = rows_of scenario cells t in
    let pieces = (stream_before scenario cells n).pieces in
    let opens = pieces-open scenario cells n in
    let sent = rest-sent pieces opens.0 opens.1 (pieces-sent scenario cells n octets) in
    let carried : CarriesStream rows (idle ∷ idle ∷ opens.0) =
    subst (CarriesStream rows) opens.1 (rows-carry scenario cells t n low) in
    deliver-whole longest_frame opens.0 rows (omega arith) sent carried
    (rows-whole scenario cells t (λ row low. undamaged-whole scenario cells row undamaged))
    ∙ ap₂ frames_by (rows-length scenario cells t n low) (sym opens.1)

-- they are the first of the accepted frames
take-front : (count : ℕ) (front rest : List (List ℕ)) →
    take count front ≡ take (length (take count front)) (front ++ rest)
take-front zero front rest = refl
take-front (suc count) [] rest = refl
take-front (suc count) (x ∷ front) rest = ap (λ l. x ∷ l) (take-front count front rest)

pub session-prefix : (scenario : Scenario) (cells : List (Option Told)) (t n : ℕ) → AreOctets scenario →
    IsUndamaged scenario → t ≤ n →
    deliver longest_frame (rows_of scenario cells t) ≡ take (length (deliver longest_frame (rows_of scenario cells t)))
    (frames_before scenario cells n)
session-prefix scenario cells t n octets undamaged low =
    let stream = stream_before scenario cells n in
    let place = place_of scenario cells t in
    let first = frames_to-first place 0 stream.pieces in
    let frames = frames_in stream.pieces in
    let is : deliver longest_frame (rows_of scenario cells t) ≡ take first.0 frames =
    session-hitless scenario cells t n octets undamaged low ∙ frames_ended place 0 stream.pieces ∙ first.1
    ∙ ap (take first.0) (frames-extents 0 stream.pieces) in
    is ∙ take-front first.0 frames stream.waiting
    ∙ ap₂ (λ count all. take count all) (ap length (sym is)) (stream_before-frames scenario cells n)

-- ---- A segment that begins at the place of a piece: what is confirmed first in it is the place of the next one.
abbrev IsFit : List ℕ → Type 0
IsFit area = IsPli (length area)

-- ---- the first two headers
-- where four octets of headed areas have come, they are a header
first-header : (count : ℕ) (area : List ℕ) (areas : List (List ℕ)) → IsFit area →
    4 ≤ length (take count (flat_map with_header (area ∷ areas))) →
    header_at (take count (flat_map with_header (area ∷ areas))) ≡ Some (length area)
first-header count area areas fit long =
    let rest : List ℕ = area ++ flat_map with_header areas in
    let core : List ℕ = core_header (length area) in
    let some : 4 ≤ count = omega (arith, long, length-take count (flat_map with_header (area ∷ areas))) in
    ap (λ l. header_at (take count l)) (append_assoc core area (flat_map with_header areas))
    ∙ ap header_at (take-append count core rest (omega (arith, length-core_header (length area), some)))
    ∙ header_at-core (length area) (take (count - length core) rest) fit

next-header : (count : ℕ) (areas : List (List ℕ)) → All IsFit areas →
    4 ≤ length (take count (flat_map with_header areas)) →
    (pli : ℕ) × (header_at (take count (flat_map with_header areas)) ≡ Some pli)
next-header count [] fit long = absurd (omega (arith, long, length-take count (flat_map with_header [])))
next-header count (area ∷ areas) fit long = (
  length area,
  first-header count area areas
      (All-head IsFit area areas fit) long,
)

-- a place that is found has some property, where one is
abbrev Finds : (ℕ → Type 0) → Option Confirmed → Type 0
Finds P found = IfSome found (λ (c : Confirmed). P c.place)

confirm-at : (P : ℕ → Type 0) (p : ℕ) (octets : List ℕ) (f : Bool → ℕ → List ℕ → Option Confirmed) →
    (4 ≤ length octets → (pli : ℕ) × (header_at octets ≡ Some pli)) → P p → Finds P (confirm_with head true p octets f)
confirm-at P p octets f next here = elim (cases_lt (length octets) 4) [
  | inl few ↦ rw (lt-leb 4 (length octets) few) tt
  | inr long ↦ rw (le-leb 4 (length octets) long, (next long).1) here
]

hunt-finds : (P : ℕ → Type 0) (octets : List ℕ) (pli : ℕ) → header_at octets ≡ Some pli →
    (4 ≤ length (drop (4 + pli) octets) → (next : ℕ) × (header_at (drop (4 + pli) octets) ≡ Some next)) →
    P (4 + pli) → Finds P (hunt true 0 octets)
unfolding hunt_within
hunt-finds P [] pli is next here = absurd
    (let wrong : None ≡ Some pli = sym (no_header head [] (omega arith)) ∙ is in cc)
hunt-finds P (o ∷ rest) pli is next here =
    rw is
    (confirm-at P (0 + (4 + pli)) (drop (4 + pli) (o ∷ rest)) (hunt_within head (length rest)) next
    (subst P (let e : 4 + pli ≡ 0 + (4 + pli) = omega arith in e) here))

areas-find : (P : ℕ → Type 0) (count : ℕ) (areas : List (List ℕ)) → All IsFit areas →
    ((area : List ℕ) (more : List (List ℕ)) → areas ≡ area ∷ more → P (4 + length area)) →
    Finds P (hunt true 0 (take count (flat_map with_header areas)))
areas-find P count areas fit ends = elim (cases_lt (length (take count (flat_map with_header areas))) 4) [
  | inl few ↦
      let octets : List ℕ = take count (flat_map with_header areas) in
      rw (hunt_within-few [] (length octets) true 0 octets few) tt
  | inr long ↦ found areas fit ends long
]
  where
    found : (areas : List (List ℕ)) → All IsFit areas →
        ((area : List ℕ) (more : List (List ℕ)) → areas ≡ area ∷ more → P (4 + length area)) →
        4 ≤ length (take count (flat_map with_header areas)) →
        Finds P (hunt true 0 (take count (flat_map with_header areas)))
    found [] fit ends long = absurd (omega (arith, long, length-take count (flat_map with_header [])))
    found (area ∷ more) fit ends long =
        let octets : List ℕ = take count (flat_map with_header (area ∷ more)) in
        let size : ℕ = 4 + length area in
        let rest : drop size octets ≡ take (count - size) (flat_map with_header more) =
        drop-part size count (flat_map with_header (area ∷ more))
        ∙ ap (take (count - size))
        (drop_at (with_header area) (flat_map with_header more) size (length-with_header area)) in
        let first : header_at octets ≡ Some (length area) = first-header count area more
        (All-head IsFit area more fit) long in
        hunt-finds P octets (length area) first
        (λ enough. subst (λ l. (next : ℕ) × (header_at l ≡ Some next)) (sym rest)
        (next-header (count - size) more (All-tail IsFit area more fit) (subst (λ l. 4 ≤ length l) rest enough)))
        (ends area more refl)

-- ---- one segment
placed : (base : ℕ) (P : ℕ → Type 0) (found : Option Confirmed) → Finds (λ p. P (base + p)) found →
    IfSome (option_map (λ (c : Confirmed). base + c.place) found) P
placed base P None finds = tt
placed base P (Some c) finds = finds

pub aligned-confirms : (longest : ℕ) (front more : List Piece) (segment : Segment) (count : ℕ) → longest ≤ 65531 →
    All (IsSendable longest) more →
    segment.octets ≡ take count (drop segment.base (stream_of (front ++ more))) →
    length (stream_of front) ≡ segment.base →
    IfSome (confirmed_in segment) (IsPlaceOfPiece (front ++ more))
aligned-confirms longest front more segment count fits sendable octets ends =
    let before : List ℕ = joined (map area_of front) in
    let areas : List (List ℕ) = scrambled_behind before (map area_of more) in
    let plis : All IsFit (map area_of more) =
    All-map IsFit area_of more
    (All-weaker (IsSendable longest) (λ piece. IsPli (length (area_of piece)))
    (λ piece sendable. IsPli-area_of longest piece fits sendable) more sendable) in
    let fit : All IsFit areas = fits-scrambled (map area_of more) areas
    (map-length-scrambled_behind before (map area_of more)) plis in
    let part : segment.octets ≡ take count (flat_map with_header areas) =
    octets ∙ ap (λ l. take count (drop segment.base l)) (stream_of-append front more)
    ∙ ap (take count) (drop_at (stream_of front) (stream_behind before more) segment.base ends) in
    placed segment.base (IsPlaceOfPiece (front ++ more)) (hunt true 0 segment.octets)
    (subst (λ l. Finds (λ p. IsPlaceOfPiece (front ++ more) (segment.base + p)) (hunt true 0 l)) (sym part)
    (areas-find (λ p. IsPlaceOfPiece (front ++ more) (segment.base + p)) count areas fit
    (λ area rest is. after more area rest
    (let sizes : map length (area ∷ rest) ≡ map length (map area_of more) = ap (map length) (sym is)
    ∙ map-length-scrambled_behind before (map area_of more) in sizes))))
  where
    after : (more : List Piece) (area : List ℕ) (rest : List (List ℕ)) →
        map length (area ∷ rest) ≡ map length (map area_of more) →
        IsPlaceOfPiece (front ++ more) (segment.base + (4 + length area))
    after [] area rest same = absurd cc
    after (piece ∷ pieces) area rest same =
        let size : length area ≡ length (area_of piece) = cc in
        let one = length-stream_behind (joined (map area_of front)) (piece ∷ []) in
        record {
          front = front ++ piece ∷ [];
          more = pieces;
          parts = sym (append_assoc front (piece ∷ []) pieces);
          ends = omega (
            arith,
            ap length (stream_of-append front (piece ∷ [])),
            length-append (stream_of front)
                (stream_behind (joined (map area_of front)) (piece ∷ [])),
            one,
            size,
            ends,
          );
        }

-- ---- where segments begin
-- a segment is the first, or begins behind a row that isn't whole
abbrev pub BeginsBehind : Scenario → List (Option Told) → ℕ → Segment → Type 0
BeginsBehind scenario cells rows segment =
    (segment.first ≡ true)
    ⊎ ((t : ℕ) × (t < rows) × (is_whole_row scenario cells t ≡ false)
    × (segment.base ≡ place_of scenario cells (suc t)))

sooner : (scenario : Scenario) (cells : List (Option Told)) (rows : ℕ) (segment : Segment) →
    BeginsBehind scenario cells rows segment →
    BeginsBehind scenario cells (suc rows) segment
sooner scenario cells rows segment (inl first) = inl first
sooner scenario cells rows segment (inr (t, low, lost, base)) = inr
    (t, (let e : t < suc rows = omega (arith, low) in e), lost, base)

record Begin (scenario : Scenario) (cells : List (Option Told)) (rows : ℕ) (come : Segments) : Type 0 where
  pub ended : All (BeginsBehind scenario cells rows) come.ended
  pub last : BeginsBehind scenario cells rows come.last

next-row : (scenario : Scenario) (cells : List (Option Told)) (rows : ℕ) (come : Segments) (octets : List ℕ)
    (whole : Bool) → is_whole_row scenario cells rows ≡ whole →
    (row_by whole come octets).last.base + length (row_by whole come octets).last.octets
    ≡ place_of scenario cells (suc rows) →
    Begin scenario cells rows come → Begin scenario cells (suc rows) (row_by whole come octets)
next-row scenario cells rows come octets true is ends begin = record {
  ended = All-weaker (BeginsBehind scenario cells rows) (BeginsBehind scenario cells (suc rows))
      (sooner scenario cells rows) come.ended begin.ended;
  last = sooner scenario cells rows come.last begin.last;
}
next-row scenario cells rows come octets false is ends begin = record {
  ended = All-append (BeginsBehind scenario cells (suc rows)) come.ended (come.last ∷ [])
      (All-weaker (BeginsBehind scenario cells rows) (BeginsBehind scenario cells (suc rows))
      (sooner scenario cells rows) come.ended begin.ended)
      (All-cons (BeginsBehind scenario cells (suc rows)) come.last []
      (sooner scenario cells rows come.last begin.last) (All-nil (BeginsBehind scenario cells (suc rows))));
  last = inr (rows, (let low : rows < suc rows = omega arith in low), is, omega (arith, ends));
}

begin-rows : (scenario : Scenario) (cells : List (Option Told)) (rows : ℕ) →
    Begin scenario cells rows (segments_of (rows_of scenario cells rows))
unfolding rows_of segments_on
begin-rows scenario cells zero = record { ended = All-nil (BeginsBehind scenario cells 0); last = inl refl }
begin-rows scenario cells (suc rows) =
    let row = row_of scenario cells rows in
    let push = segments_of-push (rows_of scenario cells rows) row in
    let ends = (Stands-all (rows_of scenario cells (suc rows))).ends
    ∙ rows-length scenario cells (suc rows) (suc rows) (omega arith) in
    subst (Begin scenario cells (suc rows)) (sym push)
    (next-row scenario cells rows (segments_of (rows_of scenario cells rows)) row.octets row.whole refl
    (subst
    (λ (come : Segments). come.last.base + length come.last.octets ≡ place_of scenario cells (suc rows))
    push ends)
    (begin-rows scenario cells rows))

pub segments-begin : (scenario : Scenario) (cells : List (Option Told)) (rows : ℕ) →
    All (BeginsBehind scenario cells rows) (segments (rows_of scenario cells rows))
segments-begin scenario cells rows =
    let come : Segments = segments_of (rows_of scenario cells rows) in
    let begin = begin-rows scenario cells rows in
    let P : Segment → Type 0 = BeginsBehind scenario cells rows in
    All-append P come.ended (come.last ∷ []) begin.ended (All-cons P come.last [] begin.last (All-nil P))

-- ---- a session
-- a segment of rows is a part of the stream
rows-part : (scenario : Scenario) (cells : List (Option Told)) (rows n : ℕ) → rows ≤ n → (segment : Segment) →
    IsPart (octets_of_rows (rows_of scenario cells rows)) segment →
    segment.octets ≡ take (length segment.octets)
    (drop segment.base (stream_of (stream_before scenario cells n).pieces))
rows-part scenario cells rows n low segment part =
    let sent : List ℕ = octets_of_rows (rows_of scenario cells rows) in
    let carry = rows-carry scenario cells rows n low in
    part.octets
    ∙ sym (within-append segment.base (length segment.octets) sent carry.rest part.fits)
    ∙ ap (λ l. take (length segment.octets) (drop segment.base l)) (sym carry.stream)

all-parts : (scenario : Scenario) (cells : List (Option Told)) (rows : ℕ) →
    All (IsPart (octets_of_rows (rows_of scenario cells rows))) (segments (rows_of scenario cells rows))
all-parts scenario cells rows =
    let sent : List ℕ = octets_of_rows (rows_of scenario cells rows) in
    let come : Segments = segments_of (rows_of scenario cells rows) in
    let stands = Stands-all (rows_of scenario cells rows) in
    All-append (IsPart sent) come.ended (come.last ∷ []) stands.each
    (All-cons (IsPart sent) come.last [] stands.last (All-nil (IsPart sent)))

pub aligned-starts : (scenario : Scenario) (cells : List (Option Told)) (rows n : ℕ) → AreOctets scenario → rows ≤ n →
    ((t : ℕ) → t < rows → is_whole_row scenario cells t ≡ false →
    IsPlaceOfPiece (stream_before scenario cells n).pieces (place_of scenario cells (suc t))) →
    TrueStarts (stream_before scenario cells n).pieces (rows_of scenario cells rows)
aligned-starts scenario cells rows n octets low each k d inside later =
    let pieces : List Piece = (stream_before scenario cells n).pieces in
    let segment : Segment = slice_index_or (segments (rows_of scenario cells rows)) k d in
    let part = rows-part scenario cells rows n low segment (all-parts scenario cells rows k d inside) in
    elim (segments-begin scenario cells rows k d inside) [
      | inl first ↦ absurd (let wrong : true ≡ false = sym first ∙ later in cc)
      | inr behind ↦
          let place = each behind.0 behind.1 behind.2 in
          let sent : All (IsSentPiece longest_frame) (place.front ++ place.more) = subst (All (IsSentPiece longest_frame)) place.parts
          (pieces-sent scenario cells n octets) in
          let sendable = All-weaker (IsSentPiece longest_frame) (IsSendable longest_frame) (sendable_of longest_frame) place.more
          (All-after (IsSentPiece longest_frame) place.front place.more sent) in
          subst (λ ps. IfSome (confirmed_in segment) (IsPlaceOfPiece ps)) (sym place.parts)
          (aligned-confirms longest_frame place.front place.more segment (length segment.octets) (omega arith) sendable
          (part ∙ ap (λ ps. take (length segment.octets) (drop segment.base (stream_of ps))) place.parts)
          (place.ends ∙ sym behind.3))
    ]
