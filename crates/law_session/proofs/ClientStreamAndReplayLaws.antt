-- The client's stream by what lands, and the session of what was accepted alone, which has the same containers.
use Rattle.std.proofs.Common.{◌≡◌, ℕ, zero, suc, ◌+◌, ◌-◌, ◌*◌, ◌/◌, ◌≤◌, ◌<◌, subst, nat_lt, nat_le, true, false}
use Rattle.std.proofs.Common.{if◌then◌else◌, List, [], ◌∷◌, ◌++◌, map, filter, fold, drop, length, Option, Some, None}
use Rattle.std.proofs.Common.{refl, sym, ◌∙◌, ap, arith, Bool, inl, inr, ◌%◌, take, slice_index, replicate}
use Rattle.std.proofs.lemmas.Grind.{flat_map-append}
use Rattle.std.proofs.lemmas.List.{append_assoc, append-nil, map-append, length-drop, length-take-le}
use Rattle.std.proofs.lemmas.List.Sums.{sum-map}
use Rattle.std.proofs.lemmas.Bool.{ltb-false, cases_lt, cases_Bool}
use Rattle.law_model.specs.Common.{DueFrame, Scenario, comes_at, frames_at, Told, active, after, table_of, Piece, idle}
use Rattle.law_model.specs.Common.{client, size_of, stream_of, payload_of, kept_by, size, Stream, frame_refusal}
use Rattle.law_model.specs.Common.{offered_by, next_by, reaching, reached, offered, width, place_of, stream_before}
use Rattle.law_model.specs.Common.{frames_in, IsFewest, accepted_offers, offers_before, frames_before, accepted_of}
use Rattle.law_model.specs.Common.{DueCommand, lands_at, steps_in, orders_at, Source, refusal, asked, asked_by}
use Rattle.law_model.specs.Common.{asked_all, decide, cell_at, accepted_orders, orders_before, with_items, replayed}
use Rattle.law_model.specs.Common.{Container, packet_nibbles, forward_packet, telling, telling_at, sent_packet}
use Rattle.law_model.specs.Common.{active_at, payload_on, nibble_at, container_of, frame_of}
use Rattle.law_model.specs.declared.item_refusals.AcceptFault.{AcceptFault}
use Rattle.law_model.proofs.StreamOfPiecesLaws.{length-stream_of}
use Rattle.law_model.specs.source.Client.{frame_in}
use Rattle.law_model.proofs.StreamOfPiecesLaws.{reaching-reaches, reached-fewest}
use Rattle.law_session.proofs.ReturnCellAndLineWordLaws.{Agree, Agree-sooner, after-agree}
use Rattle.std.specs.Bool.{⊤}
use Rattle.std.specs.List.Sorted.{IsNonDecreasingBy}
use Rattle.std.proofs.lemmas.Bool.Decides.{nat_tests}
use Rattle.std.proofs.lemmas.List.Elements.{filter-append}
use Rattle.law_model.proofs.ListLaws.{rest-sorted}
use Rattle.law_session.specs.LandingByStep.{landed, AreOrdersInOrder, AreOffersInOrder, is_landed, is_come}
use Rattle.std.proofs.lemmas.List.Folds.{fold-map}
use Rattle.std.specs.List.{range_with_len}

-- ---- The client's stream: what it depends on, that it holds each accepted frame, and that its pieces are the fewest that
-- reach.
-- ---- what the stream depends on: the tables of the packets that govern the frames so far, and the frames that land
-- two sessions have the same containers, and the same tables up to step n
pub record SameTables (one : Scenario) (a : List (Option Told)) (other : Scenario) (b : List (Option Told))
    (n : ℕ) : Type 0 where
  pub size : one.size ≡ other.size
  pub tables : (j : ℕ) → j ≤ n → after one a j ≡ after other b j

SameTables-sooner : (one : Scenario) (a : List (Option Told)) (other : Scenario) (b : List (Option Told)) (i n : ℕ) →
    i ≤ n → SameTables one a other b n → SameTables one a other b i
SameTables-sooner one a other b i n sooner same =
    record { size = same.size; tables = λ j low. same.tables j (omega arith) }

-- the frames that land before frame t lead to the same streams
abbrev pub SameOffers : Scenario → Scenario → List (Option Told) → ℕ → Type 0
SameOffers one other b t = (u : ℕ) → u < t →
    fold offered (stream_before other b u) (frames_at one u) ≡ fold offered (stream_before other b u)
    (frames_at other u)

pub width-same : (one : Scenario) (a : List (Option Told)) (other : Scenario) (b : List (Option Told)) (t : ℕ) →
    SameTables one a other b ((t - 8) / 16) → width one a t ≡ width other b t
width-same one a other b t same =
    elim (nat_lt t 24) as (λ c. nat_lt t 24 ≡ c → (if c then 0 else length (active (table_of one a ((t - 24) / 16))))
    ≡ (if c then 0 else length (active (table_of other b ((t - 24) / 16))))) [
      | true ↦ λ e. refl
      | false ↦ λ e.
          let high = ltb-false t 24 e in
          ap (λ source. length (active source.table)) (same.tables (suc ((t - 24) / 16)) (omega arith))
    ] refl

pub place_of-same : (one : Scenario) (a : List (Option Told)) (other : Scenario) (b : List (Option Told)) (t : ℕ) →
    SameTables one a other b ((t - 8) / 16) → place_of one a t ≡ place_of other b t
unfolding place_of
place_of-same one a other b zero same = refl
place_of-same one a other b (suc t) same =
    let sooner = SameTables-sooner one a other b ((t - 8) / 16) ((suc t - 8) / 16) (omega arith) same in
    let place = place_of-same one a other b t sooner in
    let wide = width-same one a other b t sooner in
    let size = same.size in
    ap (λ n. n + one.size * width one a t) place ∙ ap (λ n. place_of other b t + n * width one a t) size
    ∙ ap (λ n. place_of other b t + other.size * n) wide

pub stream_before-same : (one : Scenario) (a : List (Option Told)) (other : Scenario) (b : List (Option Told)) (t : ℕ) →
    SameTables one a other b ((t - 8) / 16) → SameOffers one other b t → stream_before one a t ≡ stream_before other b t
unfolding stream_before
stream_before-same one a other b zero same offers = refl
stream_before-same one a other b (suc t) same offers =
    let stream = stream_before-same one a other b t
    (SameTables-sooner one a other b ((t - 8) / 16) ((suc t - 8) / 16) (omega arith) same)
    (λ u low. offers u (omega arith)) in
    let place = place_of-same one a other b (suc t) same in
    ap (λ p. reaching p p (fold offered (stream_before one a t) (frames_at one t))) place
    ∙ ap (λ s. reaching (place_of other b (suc t)) (place_of other b (suc t)) (fold offered s (frames_at one t))) stream
    ∙ ap (reaching (place_of other b (suc t)) (place_of other b (suc t))) (offers t (omega arith))

-- more return cells after those that the tables need change nothing
pub stream_before-agree : (scenario : Scenario) (a b : List (Option Told)) (t : ℕ) → Agree scenario a b ((t - 8) / 16) →
    stream_before scenario a t ≡ stream_before scenario b t
stream_before-agree scenario a b t agree =
    stream_before-same scenario a scenario b t
    (record {
      size = refl;
      tables =
          λ j low. after-agree scenario a b j (Agree-sooner scenario a b j ((t - 8) / 16) low agree);
    }) (λ u low. refl)

-- ---- each accepted frame is begun or waits, in order
abbrev pub known_frames : Stream → List (List ℕ)
known_frames stream = frames_in stream.pieces ++ stream.waiting

offered_by-frames : (why : Option AcceptFault) (offer : DueFrame) (rest : List DueFrame) (stream : Stream) →
    known_frames (offered_by why offer.frame stream) ++ map (λ offer. offer.frame) rest ≡ known_frames stream ++ map
    (λ offer. offer.frame) (kept_by why offer rest)
offered_by-frames None offer rest stream =
    ap (λ frames. frames ++ map (λ offer. offer.frame) rest)
    (sym (append_assoc (frames_in stream.pieces) stream.waiting (offer.frame ∷ [])))
    ∙ append_assoc (frames_in stream.pieces ++ stream.waiting) (offer.frame ∷ []) (map (λ offer. offer.frame) rest)
offered_by-frames (Some why) offer rest stream = refl

offered_all-frames : (offers : List DueFrame) (stream : Stream) →
    known_frames (fold offered stream (map (λ offer. offer.frame) offers)) ≡ known_frames stream ++ map
    (λ offer. offer.frame) (accepted_offers stream offers)
offered_all-frames [] stream = sym (append-nil (known_frames stream))
offered_all-frames (offer ∷ offers) stream =
    offered_all-frames offers (offered stream offer.frame)
    ∙ offered_by-frames (frame_refusal offer.frame stream) offer (accepted_offers (offered stream offer.frame) offers)
    stream

next_by-frames : (waiting : List (List ℕ)) (pieces : List Piece) →
    known_frames (next_by waiting pieces) ≡ frames_in pieces ++ waiting
next_by-frames [] pieces = ap (λ frames. frames ++ []) (flat_map-append frame_in pieces (idle ∷ []))
    ∙ append-nil (frames_in pieces ++ [])
next_by-frames (frame ∷ waiting) pieces =
    ap (λ frames. frames ++ waiting) (flat_map-append frame_in pieces (client frame ∷ []))
    ∙ append_assoc (frames_in pieces) (frame ∷ []) waiting

reaching-frames : (steps place : ℕ) (stream : Stream) → known_frames (reaching steps place stream) ≡ known_frames stream
unfolding reaching
reaching-frames zero place stream = refl
reaching-frames (suc steps) place stream =
    elim (nat_le place (size stream.pieces))
    as (λ b. known_frames (if b then stream else reaching steps place (next_by stream.waiting stream.pieces))
    ≡ known_frames stream) [
      | true ↦ refl
      | false ↦ reaching-frames steps place (next_by stream.waiting stream.pieces)
          ∙ next_by-frames stream.waiting stream.pieces
    ]

pub stream_before-frames : (scenario : Scenario) (cells : List (Option Told)) (t : ℕ) →
    known_frames (stream_before scenario cells t) ≡ frames_before scenario cells t
unfolding stream_before offers_before
stream_before-frames scenario cells zero = refl
stream_before-frames scenario cells (suc t) =
    let come = filter (comes_at t) scenario.offers in
    reaching-frames (place_of scenario cells (suc t)) (place_of scenario cells (suc t))
    (fold offered (stream_before scenario cells t) (frames_at scenario t))
    ∙ offered_all-frames come (stream_before scenario cells t)
    ∙ ap (λ frames. frames ++ map (λ offer. offer.frame) (accepted_offers (stream_before scenario cells t) come))
    (stream_before-frames scenario cells t)
    ∙ sym (map-append (λ (offer : DueFrame). offer.frame) (offers_before scenario cells t)
    (accepted_offers (stream_before scenario cells t) come))

-- ---- the pieces reach the place
pub stream_before-reaches : (scenario : Scenario) (cells : List (Option Told)) (t : ℕ) →
    place_of scenario cells t ≤ size (stream_before scenario cells t).pieces
unfolding stream_before place_of
stream_before-reaches scenario cells zero = omega arith
stream_before-reaches scenario cells (suc t) =
    reaching-reaches (place_of scenario cells (suc t)) (place_of scenario cells (suc t))
    (fold offered (stream_before scenario cells t) (frames_at scenario t)) (omega arith)

-- ---- and are the fewest that do
offered-pieces : (why : Option AcceptFault) (frame : List ℕ) (stream : Stream) →
    (offered_by why frame stream).pieces ≡ stream.pieces
offered-pieces None frame stream = refl
offered-pieces (Some why) frame stream = refl

pub offered_all-pieces : (frames : List (List ℕ)) (stream : Stream) → (fold offered stream frames).pieces ≡ stream.pieces
offered_all-pieces [] stream = refl
offered_all-pieces (frame ∷ frames) stream = offered_all-pieces frames (offered stream frame)
    ∙ offered-pieces (frame_refusal frame stream) frame stream

pub stream_before-next : (scenario : Scenario) (cells : List (Option Told)) (t : ℕ) →
    stream_before scenario cells (suc t) ≡ reached (place_of scenario cells (suc t))
    (fold offered (stream_before scenario cells t) (frames_at scenario t))
unfolding stream_before
stream_before-next scenario cells t = refl

pub stream_before-fewest : (scenario : Scenario) (cells : List (Option Told)) (t : ℕ) →
    IsFewest (stream_before scenario cells t).pieces (place_of scenario cells (suc t))
    (stream_before scenario cells (suc t)).pieces
stream_before-fewest scenario cells t =
    let place = place_of scenario cells (suc t) in
    let stream = fold offered (stream_before scenario cells t) (frames_at scenario t) in
    subst (λ s. IsFewest (stream_before scenario cells t).pieces place s.pieces)
    (sym (stream_before-next scenario cells t))
    (subst (λ pieces. IsFewest pieces place (reached place stream).pieces)
    (offered_all-pieces (frames_at scenario t) (stream_before scenario cells t)) (reached-fewest place stream))

-- ---- the octets that a frame carries
-- the stream has octets up to the place at which the frame begins
pub stream-reaches : (scenario : Scenario) (cells : List (Option Told)) (t : ℕ) →
    place_of scenario cells t ≤ length (stream_of (stream_before scenario cells t).pieces)
stream-reaches scenario cells t =
    let pieces = (stream_before scenario cells t).pieces in
    let reaches = stream_before-reaches scenario cells t in
    let long = length-stream_of pieces ∙ sum-map size_of pieces in
    omega arith

pub payload-length : (scenario : Scenario) (cells : List (Option Told)) (t : ℕ) →
    length (payload_of scenario cells t) ≡ scenario.size * width scenario cells t
unfolding place_of
payload-length scenario cells t =
    let octets = stream_of (stream_before scenario cells (suc t)).pieces in
    let reaches = stream-reaches scenario cells (suc t) in
    let left = length-drop (place_of scenario cells t) octets in
    length-take-le (scenario.size * width scenario cells t) (drop (place_of scenario cells t) octets) (omega arith)

-- ---- What is refused leaves the state as it is, so that what was accepted is accepted again by itself.
-- what is refused changes nothing
abbrev pub LeavesRefused : {S X W : Type 0} → (X → S → Option W) → (S → X → S) → Type 0
LeavesRefused {S} {X} {W} refusal next = (state : S) (x : X) (why : W) → refusal x state ≡ Some why →
    next state x ≡ state

fold-kept_by : {S X W : Type 0} (next : S → X → S) (found : Option W) (state after : S) (x : X) (xs : List X) →
    after ≡ next state x →
    ((why : W) → found ≡ Some why → next state x ≡ state) → fold next state (kept_by found x xs) ≡ fold next after xs
fold-kept_by next None state after x xs same leaves = ap (λ s. fold next s xs) (sym same)
fold-kept_by next (Some why) state after x xs same leaves = ap (λ s. fold next s xs) (sym (same ∙ leaves why refl))

-- what is accepted leads to the state that all leads to
pub fold-accepted_of : {S X W : Type 0} (refusal : X → S → Option W) (next : S → X → S) → LeavesRefused refusal next →
    (state : S) (xs : List X) →
    fold next state (accepted_of refusal next state xs) ≡ fold next state xs
fold-accepted_of refusal next leaves state [] = refl
fold-accepted_of refusal next leaves state (x ∷ xs) =
    fold-kept_by next (refusal x state) state (next state x) x (accepted_of refusal next (next state x) xs) refl
    (leaves state x)
    ∙ fold-accepted_of refusal next leaves (next state x) xs

accepted_of-kept_by : {S X W : Type 0} (refusal : X → S → Option W) (next : S → X → S) (found : Option W) (state : S)
    (x : X) (xs : List X) → refusal x state ≡ found →
    ((why : W) → found ≡ Some why → next state x ≡ state) → accepted_of refusal next (next state x) xs ≡ xs →
    accepted_of refusal next state (kept_by found x xs) ≡ kept_by found x xs
accepted_of-kept_by refusal next None state x xs is leaves rest =
    ap (λ found. kept_by found x (accepted_of refusal next (next state x) xs)) is ∙ ap (λ ys. x ∷ ys) rest
accepted_of-kept_by refusal next (Some why) state x xs is leaves rest =
    ap (λ s. accepted_of refusal next s xs) (sym (leaves why refl)) ∙ rest

-- and is accepted once more
pub accepted_of-again : {S X W : Type 0} (refusal : X → S → Option W) (next : S → X → S) → LeavesRefused refusal next →
    (state : S) (xs : List X) →
    accepted_of refusal next state (accepted_of refusal next state xs) ≡ accepted_of refusal next state xs
accepted_of-again refusal next leaves state [] = refl
accepted_of-again refusal next leaves state (x ∷ xs) =
    accepted_of-kept_by refusal next (refusal x state) state x (accepted_of refusal next (next state x) xs) refl
    (leaves state x)
    (accepted_of-again refusal next leaves (next state x) xs)

-- what all meet, those that are accepted meet
abbrev pub Passes : {X : Type 0} → (X → Bool) → List X → Type 0
Passes test [] = ⊤
Passes test (x ∷ xs) = (test x ≡ true) × Passes test xs

Passes-kept_by : {X W : Type 0} (test : X → Bool) (found : Option W) (x : X) (xs : List X) → test x ≡ true →
    Passes test xs → Passes test (kept_by found x xs)
Passes-kept_by test None x xs first rest = (first, rest)
Passes-kept_by test (Some why) x xs first rest = rest

pub Passes-accepted_of : {S X W : Type 0} (test : X → Bool) (refusal : X → S → Option W) (next : S → X → S) (state : S)
    (xs : List X) → Passes test xs → Passes test (accepted_of refusal next state xs)
Passes-accepted_of test refusal next state [] passes = tt
Passes-accepted_of test refusal next state (x ∷ xs) passes =
    Passes-kept_by test (refusal x state) x (accepted_of refusal next (next state x) xs) passes.0
    (Passes-accepted_of test refusal next (next state x) xs passes.1)

-- ---- Lists that grow by what lands at each step.
-- ---- what passes a test
pub Passes-filter : {X : Type 0} (test : X → Bool) (xs : List X) → Passes test (filter test xs)
Passes-filter test [] = tt
Passes-filter test (x ∷ xs) =
    elim (test x) as (λ b. test x ≡ b → Passes test (if b then x ∷ filter test xs else filter test xs)) [
      | true ↦ λ e. (e, Passes-filter test xs)
      | false ↦ λ e. Passes-filter test xs
    ] refl

filter-all : {X : Type 0} (test : X → Bool) (xs : List X) → Passes test xs → filter test xs ≡ xs
filter-all test [] passes = refl
filter-all test (x ∷ xs) passes = let first = passes.0 in rw first (ap (λ rest. x ∷ rest) (filter-all test xs passes.1))

filter-none : {X : Type 0} (test other : X → Bool) (xs : List X) → ((x : X) → other x ≡ true → test x ≡ false) →
    Passes other xs → filter test xs ≡ []
filter-none test other [] apart passes = refl
filter-none test other (x ∷ xs) apart passes = let first = apart x passes.0 in
    rw first (filter-none test other xs apart passes.1)

-- ---- a list that grows at each step by elements which pass the test of that step, where no element passes the tests
-- of two steps
pub record Grows {X : Type 0} (at : ℕ → X → Bool) (come all : ℕ → List X) : Type 0 where
  pub start : all zero ≡ []
  pub next : (n : ℕ) → all (suc n) ≡ all n ++ come n
  pub passes : (n : ℕ) → Passes (at n) (come n)
  pub apart : (i j : ℕ) (x : X) → (i ≡ j → ⊥) → at j x ≡ true → at i x ≡ false

filter-later : {X : Type 0} (at : ℕ → X → Bool) (come all : ℕ → List X) → Grows at come all → (n i : ℕ) → n ≤ i →
    filter (at i) (all n) ≡ []
filter-later at come all grows zero i high = ap (filter (at i)) grows.start
filter-later at come all grows (suc n) i high =
    ap (filter (at i)) (grows.next n) ∙ filter-append (at i) (all n) (come n)
    ∙ ap (λ front. front ++ filter (at i) (come n)) (filter-later at come all grows n i (omega arith))
    ∙ filter-none (at i) (at n) (come n) (λ x. grows.apart i n x (λ e. omega arith)) (grows.passes n)

-- each step's elements can be found again
pub filter-there : {X : Type 0} (at : ℕ → X → Bool) (come all : ℕ → List X) → Grows at come all → (n i : ℕ) → i < n →
    filter (at i) (all n) ≡ come i
filter-there at come all grows zero i low = absurd (omega arith)
filter-there at come all grows (suc n) i low =
    ap (filter (at i)) (grows.next n) ∙ filter-append (at i) (all n) (come n)
    ∙ elim (cases_lt i n) [
      | inl before ↦
          ap (λ back. filter (at i) (all n) ++ back)
          (filter-none (at i) (at n) (come n) (λ x. grows.apart i n x (λ e. omega arith)) (grows.passes n))
          ∙ append-nil (filter (at i) (all n)) ∙ filter-there at come all grows n i before
      | inr last ↦
          let same : n ≡ i = omega arith in
          ap (λ front. front ++ filter (at i) (come n)) (filter-later at come all grows n i last)
          ∙ ap (λ k. filter (at i) (come k)) same ∙ filter-all (at i) (come i) (grows.passes i)
    ]

-- ---- the due ticks never fall
abbrev pub IsFrom : {X : Type 0} → (X → ℕ) → ℕ → List X → Type 0
IsFrom due from [] = ⊤
IsFrom due from (x ∷ xs) = (from ≤ due x) × IsFrom due (due x) xs

IsFrom-first : {X : Type 0} (due : X → ℕ) (x : X) (xs : List X) → IsNonDecreasingBy due (x ∷ xs) → IsFrom due (due x) xs
IsFrom-first due x [] sorted = tt
IsFrom-first due x (y ∷ xs) sorted =
    (sorted zero (suc zero) x (omega arith) (omega arith), IsFrom-first due y xs (rest-sorted due x (y ∷ xs) sorted))

IsFrom-start : {X : Type 0} (due : X → ℕ) (xs : List X) → IsNonDecreasingBy due xs → IsFrom due zero xs
IsFrom-start due [] sorted = tt
IsFrom-start due (x ∷ xs) sorted = (omega arith, IsFrom-first due x xs sorted)

-- the tests of what came before a step, comes in it, and came before the next one
pub record IsStep {X : Type 0} (due : X → ℕ) (come now next : X → Bool) : Type 0 where
  pub gone : (x : X) → come x ≡ true → (now x ≡ false) × (next x ≡ true)
  pub fresh : (x : X) → come x ≡ false → now x ≡ next x
  pub stays : (x y : X) → due x ≤ due y → come x ≡ false → come y ≡ false

none_come : {X : Type 0} (due : X → ℕ) (come : X → Bool) (x : X) (xs : List X) →
    ((x y : X) → due x ≤ due y → come x ≡ false → come y ≡ false) → come x ≡ false → IsFrom due (due x) xs →
    filter come xs ≡ []
none_come due come x [] stays late from = refl
none_come due come x (y ∷ xs) stays late from =
    let later = stays x y from.0 late in rw later (none_come due come y xs stays later from.1)

come-next : {X : Type 0} (due : X → ℕ) (come now next : X → Bool) (start : ℕ) (xs : List X) → IsStep due come now next →
    IsFrom due start xs →
    filter come xs ++ filter now xs ≡ filter next xs
come-next due come now next start [] step from = refl
come-next due come now next start (x ∷ xs) step from =
    let rest = come-next due come now next (due x) xs step from.1 in
    elim (cases_Bool (come x)) [
      | inl there ↦
          let both_say = step.gone x there in
          let at_once = both_say.0 in
          let by_then = both_say.1 in
          rw (there, at_once, by_then) (ap (λ ys. x ∷ ys) rest)
      | inr later ↦
          let none = none_come due come x xs step.stays later from.1 in
          let same = step.fresh x later in
          let only : filter now xs ≡ filter next xs = rw none at rest in
          rw (later, same, none) (ap (λ ys. if next x then x ∷ ys else ys) only)
    ]

pub landed-come : {X : Type 0} (due : X → ℕ) (at come : ℕ → X → Bool) (xs : List X) →
    ((n : ℕ) → IsStep due (come n) (at n) (come (suc n))) → ((x : X) → come zero x ≡ false) →
    IsNonDecreasingBy due xs → (n : ℕ) → landed at xs n ≡ filter (come n) xs
unfolding landed
landed-come due at come xs step none sorted zero = sym (no_first (come zero) xs none) where
  no_first : {X : Type 0} (test : X → Bool) (xs : List X) → ((x : X) → test x ≡ false) → filter test xs ≡ []
  no_first test [] none = refl
  no_first test (x ∷ xs) none = let first = none x in rw first (no_first test xs none)
landed-come due at come xs step none sorted (suc n) =
    ap (λ front. front ++ filter (at n) xs) (landed-come due at come xs step none sorted n)
    ∙ come-next due (come n) (at n) (come (suc n)) zero xs (step n) (IsFrom-start due xs sorted)

-- ---- orders
pub lands_apart : (i j : ℕ) (order : DueCommand) → (i ≡ j → ⊥) → lands_at j order ≡ true → lands_at i order ≡ false
lands_apart i j order other lands = grind (arith, nat_tests, lands, other)

orders_step : (j : ℕ) → IsStep (λ (order : DueCommand). order.due) (is_landed j) (lands_at j) (is_landed (suc j))
orders_step j = record {
  gone = λ order come. (grind (arith, nat_tests, come), grind (arith, nat_tests, come));
  fresh = λ order late. grind (arith, nat_tests, late);
  stays = λ a b low late. grind (arith, nat_tests, low, late);
}

pub orders_land : (orders : List DueCommand) (j : ℕ) → AreOrdersInOrder orders →
    landed lands_at orders j ≡ filter (is_landed j) orders
orders_land orders j sorted =
    landed-come (λ (order : DueCommand). order.due) lands_at is_landed orders orders_step
    (λ order. grind (arith, nat_tests)) sorted j

-- ---- offers
pub comes_apart : (i j : ℕ) (offer : DueFrame) → (i ≡ j → ⊥) → comes_at j offer ≡ true → comes_at i offer ≡ false
comes_apart i j offer other comes = grind (arith, nat_tests, comes, other)

offers_step : (t : ℕ) → IsStep (λ (offer : DueFrame). offer.due) (is_come t) (comes_at t) (is_come (suc t))
offers_step t = record {
  gone = λ offer come. (grind (arith, nat_tests, come), grind (arith, nat_tests, come));
  fresh = λ offer late. grind (arith, nat_tests, late);
  stays = λ a b low late. grind (arith, nat_tests, low, late);
}

pub offers_land : (offers : List DueFrame) (t : ℕ) → AreOffersInOrder offers →
    landed comes_at offers t ≡ filter (is_come t) offers
offers_land offers t sorted =
    landed-come (λ (offer : DueFrame). offer.due) comes_at is_come offers offers_step
    (λ offer. grind (arith, nat_tests)) sorted t

-- ---- A session of what was accepted alone goes as the session, and accepts all of it again.
-- ---- commands
refused_command : (lines : ℕ) →
    LeavesRefused (λ (order : DueCommand) (source : Source). refusal lines order.command source)
    (λ source order. asked lines source order.command)
refused_command lines source order why e = ap (λ r. asked_by r order.command source) e

asked_all-accepted : (lines : ℕ) (source : Source) (orders : List DueCommand) →
    asked_all lines (map (λ order. order.command) (accepted_orders lines source orders)) source ≡ asked_all lines
    (map (λ order. order.command) orders) source
asked_all-accepted lines source orders =
    fold-map (asked lines) (λ (order : DueCommand). order.command) source (accepted_orders lines source orders)
    ∙ fold-accepted_of (λ (order : DueCommand) (source : Source). refusal lines order.command source)
    (λ source order. asked lines source order.command) (refused_command lines) source orders
    ∙ sym (fold-map (asked lines) (λ (order : DueCommand). order.command) source orders)

-- the orders that step j accepts
abbrev pub orders_accepted : Scenario → List (Option Told) → ℕ → List DueCommand
orders_accepted scenario cells j =
    accepted_orders (length scenario.windows) (after scenario cells j) (filter (lands_at j) scenario.orders)

orders-grow : (scenario : Scenario) (cells : List (Option Told)) →
    Grows lands_at (orders_accepted scenario cells) (orders_before scenario cells)
unfolding orders_before
orders-grow scenario cells = record {
  start = refl;
  next = λ j. refl;
  passes = λ j. Passes-accepted_of (lands_at j) _ _ (after scenario cells j) (filter (lands_at j) scenario.orders)
      (Passes-filter (lands_at j) scenario.orders);
  apart = lands_apart;
}

orders-there : (scenario : Scenario) (cells : List (Option Told)) (n j : ℕ) → j < n →
    filter (lands_at j) (orders_before scenario cells n) ≡ orders_accepted scenario cells j
orders-there scenario cells n j low =
    filter-there lands_at (orders_accepted scenario cells) (orders_before scenario cells)
    (orders-grow scenario cells) n j low

pub after-journal : (scenario : Scenario) (cells : List (Option Told)) (offers : List DueFrame) (n j : ℕ) → j ≤ n →
    after (with_items scenario (orders_before scenario cells n) offers) cells j ≡ after scenario cells j
unfolding after
after-journal scenario cells offers n zero low = refl
after-journal scenario cells offers n (suc j) low =
    let lines = length scenario.windows in
    let orders = orders_before scenario cells n in
    ap (λ source. decide ((j - scenario.lag) % scenario.options.statuses) (cell_at scenario cells j) source)
    (ap (λ source. asked_all lines (orders_at (with_items scenario orders offers) j) source)
    (after-journal scenario cells offers n j (omega arith))
    ∙ ap (λ found. asked_all lines (map (λ (order : DueCommand). order.command) found) (after scenario cells j))
    (orders-there scenario cells n j (omega arith))
    ∙ asked_all-accepted lines (after scenario cells j) (filter (lands_at j) scenario.orders))

-- ---- frames
refused_frame : LeavesRefused (λ (offer : DueFrame) (stream : Stream). frame_refusal offer.frame stream)
    (λ stream offer. offered stream offer.frame)
refused_frame stream offer why e = ap (λ r. offered_by r offer.frame stream) e

offered-accepted : (stream : Stream) (offers : List DueFrame) →
    fold offered stream (map (λ offer. offer.frame) (accepted_offers stream offers)) ≡ fold offered stream
    (map (λ offer. offer.frame) offers)
offered-accepted stream offers =
    fold-map offered (λ (offer : DueFrame). offer.frame) stream (accepted_offers stream offers)
    ∙ fold-accepted_of (λ (offer : DueFrame) (stream : Stream). frame_refusal offer.frame stream)
    (λ stream offer. offered stream offer.frame) refused_frame stream offers
    ∙ sym (fold-map offered (λ (offer : DueFrame). offer.frame) stream offers)

-- the offers that are accepted when t ticks are made
abbrev pub offers_accepted : Scenario → List (Option Told) → ℕ → List DueFrame
offers_accepted scenario cells t =
    accepted_offers (stream_before scenario cells t) (filter (comes_at t) scenario.offers)

offers-grow : (scenario : Scenario) (cells : List (Option Told)) →
    Grows comes_at (offers_accepted scenario cells) (offers_before scenario cells)
unfolding offers_before
offers-grow scenario cells = record {
  start = refl;
  next = λ t. refl;
  passes = λ t. Passes-accepted_of (comes_at t) _ _ (stream_before scenario cells t)
      (filter (comes_at t) scenario.offers) (Passes-filter (comes_at t) scenario.offers);
  apart = comes_apart;
}

offers-there : (scenario : Scenario) (cells : List (Option Told)) (n t : ℕ) → t < n →
    filter (comes_at t) (offers_before scenario cells n) ≡ offers_accepted scenario cells t
offers-there scenario cells n t low =
    filter-there comes_at (offers_accepted scenario cells) (offers_before scenario cells)
    (offers-grow scenario cells) n t low

-- ---- the session of what was accepted
pub after-replayed : (scenario : Scenario) (cells : List (Option Told)) (t j : ℕ) → j ≤ steps_in t →
    after (replayed scenario cells t) cells j ≡ after scenario cells j
after-replayed scenario cells t j low = after-journal scenario cells (offers_before scenario cells t) (steps_in t) j low

pub stream-replayed : (scenario : Scenario) (cells : List (Option Told)) (t n : ℕ) → n ≤ t →
    stream_before (replayed scenario cells t) cells n ≡ stream_before scenario cells n
stream-replayed scenario cells t n low =
    stream_before-same (replayed scenario cells t) cells scenario cells n
    (record { size = refl; tables = λ j near. after-replayed scenario cells t j (omega arith) })
    (λ u near. ap (λ found. fold offered (stream_before scenario cells u)
    (map (λ (offer : DueFrame). offer.frame) found)) (offers-there scenario cells t u (omega arith))
    ∙ offered-accepted (stream_before scenario cells u) (filter (comes_at u) scenario.offers))

pub orders-again : (scenario : Scenario) (cells : List (Option Told)) (t j : ℕ) → j ≤ steps_in t →
    orders_before (replayed scenario cells t) cells j ≡ orders_before scenario cells j
unfolding orders_before
orders-again scenario cells t zero low = refl
orders-again scenario cells t (suc j) low =
    let lines = length scenario.windows in
    ap (λ front. front ++ orders_accepted (replayed scenario cells t) cells j)
    (orders-again scenario cells t j (omega arith))
    ∙ ap (λ back. orders_before scenario cells j ++ back)
    (ap (λ source. accepted_orders lines source (filter (lands_at j) (orders_before scenario cells (steps_in t))))
    (after-replayed scenario cells t j (omega arith))
    ∙ ap (accepted_orders lines (after scenario cells j)) (orders-there scenario cells (steps_in t) j low)
    ∙ accepted_of-again _ _ (refused_command lines) (after scenario cells j) (filter (lands_at j) scenario.orders))

pub offers-again : (scenario : Scenario) (cells : List (Option Told)) (t n : ℕ) → n ≤ t →
    offers_before (replayed scenario cells t) cells n ≡ offers_before scenario cells n
unfolding offers_before
offers-again scenario cells t zero low = refl
offers-again scenario cells t (suc n) low =
    ap (λ front. front ++ offers_accepted (replayed scenario cells t) cells n)
    (offers-again scenario cells t n (omega arith))
    ∙ ap (λ back. offers_before scenario cells n ++ back)
    (ap (λ stream. accepted_offers stream (filter (comes_at n) (offers_before scenario cells t)))
    (stream-replayed scenario cells t n (omega arith))
    ∙ ap (accepted_offers (stream_before scenario cells n)) (offers-there scenario cells t n low)
    ∙ accepted_of-again _ _ refused_frame (stream_before scenario cells n) (filter (comes_at n) scenario.offers))

-- ---- What a session's tables, stream and containers depend on: what lands before each step and each frame, the return
-- cells, and what the packets tell.
-- up to t ticks the same commands and frames land in two sessions, the same return cells are taken, and the packets
-- tell the same
pub record Alike (one : Scenario) (a : List (Option Told)) (other : Scenario) (b : List (Option Told))
    (t : ℕ) : Type 0 where
  pub lines : length one.windows ≡ length other.windows
  pub lag : one.lag ≡ other.lag
  pub size : one.size ≡ other.size
  pub statuses : one.options.statuses ≡ other.options.statuses
  pub orders : (j : ℕ) → j < steps_in t → orders_at one j ≡ orders_at other j
  pub cells : (j : ℕ) → j < steps_in t → cell_at one a j ≡ cell_at other b j
  pub offers : (u : ℕ) → u < t → frames_at one u ≡ frames_at other u
  pub tells : (k : ℕ) → k < steps_in t → telling_at one k ≡ telling_at other k

pub Alike-sooner : (one : Scenario) (a : List (Option Told)) (other : Scenario) (b : List (Option Told)) (i t : ℕ) →
    i ≤ t → Alike one a other b t → Alike one a other b i
Alike-sooner one a other b i t sooner alike = record {
  lines = alike.lines;
  lag = alike.lag;
  size = alike.size;
  statuses = alike.statuses;
  orders = λ j low. alike.orders j (omega arith);
  cells = λ j low. alike.cells j (omega arith);
  offers = λ u low. alike.offers u (omega arith);
  tells = λ k low. alike.tells k (omega arith);
}

pub alike-after : (one : Scenario) (a : List (Option Told)) (other : Scenario) (b : List (Option Told)) (t j : ℕ) →
    Alike one a other b t → j ≤ steps_in t → after one a j ≡ after other b j
unfolding after
alike-after one a other b t zero alike low =
    ap (λ n. record { table = (after one a zero).table; planned = replicate n false; waiting = [] }) alike.lines
alike-after one a other b t (suc j) alike low =
    let before = alike-after one a other b t j alike (omega arith) in
    let cell = alike.cells j (omega arith) in
    let orders = alike.orders j (omega arith) in
    ap (λ lag. decide ((j - lag) % one.options.statuses) (cell_at one a j)
    (asked_all (length one.windows) (orders_at one j) (after one a j))) alike.lag
    ∙ ap (λ statuses. decide ((j - other.lag) % statuses) (cell_at one a j)
    (asked_all (length one.windows) (orders_at one j) (after one a j))) alike.statuses
    ∙ ap (λ told. decide ((j - other.lag) % other.options.statuses) told
    (asked_all (length one.windows) (orders_at one j) (after one a j))) cell
    ∙ ap (λ n. decide ((j - other.lag) % other.options.statuses) (cell_at other b j)
    (asked_all n (orders_at one j) (after one a j))) alike.lines
    ∙ ap (λ orders. decide ((j - other.lag) % other.options.statuses) (cell_at other b j)
    (asked_all (length other.windows) orders (after one a j))) orders
    ∙ ap (λ source. decide ((j - other.lag) % other.options.statuses) (cell_at other b j)
    (asked_all (length other.windows) (orders_at other j) source)) before

pub alike-tables : (one : Scenario) (a : List (Option Told)) (other : Scenario) (b : List (Option Told)) (t : ℕ) →
    Alike one a other b t → SameTables one a other b ((t - 8) / 16)
alike-tables one a other b t alike =
    record { size = alike.size; tables = λ j low. alike-after one a other b t j alike (omega arith) }

pub alike-place : (one : Scenario) (a : List (Option Told)) (other : Scenario) (b : List (Option Told)) (t : ℕ) →
    Alike one a other b t → place_of one a t ≡ place_of other b t
alike-place one a other b t alike = place_of-same one a other b t (alike-tables one a other b t alike)

pub alike-stream : (one : Scenario) (a : List (Option Told)) (other : Scenario) (b : List (Option Told)) (t : ℕ) →
    Alike one a other b t → stream_before one a t ≡ stream_before other b t
alike-stream one a other b t alike =
    stream_before-same one a other b t (alike-tables one a other b t alike)
    (λ u low. ap (fold offered (stream_before other b u)) (alike.offers u low))

-- ---- the containers of a frame
-- two sessions have the same tables up to the last one that says anything of frame t, the same stream after it, and
-- their packets tell the same
pub record SameFrame (one : Scenario) (a : List (Option Told)) (other : Scenario) (b : List (Option Told))
    (t : ℕ) : Type 0 where
  pub lines : length one.windows ≡ length other.windows
  pub tables : SameTables one a other b (steps_in (suc t))
  pub stream : stream_before one a (suc t) ≡ stream_before other b (suc t)
  pub tells : (k : ℕ) → k < steps_in (suc t) → telling_at one k ≡ telling_at other k

active-same : (one : Scenario) (a : List (Option Told)) (other : Scenario) (b : List (Option Told)) (t : ℕ) →
    SameFrame one a other b t → active_at one a t ≡ active_at other b t
active-same one a other b t same =
    elim (nat_lt t 24) as (λ c. nat_lt t 24 ≡ c →
    (if c then [] else active (table_of one a ((t - 24) / 16))) ≡
    (if c then [] else active (table_of other b ((t - 24) / 16)))) [
      | true ↦ λ e. refl
      | false ↦ λ e.
          let high = ltb-false t 24 e in
          ap (λ source. active source.table) (same.tables.tables (suc ((t - 24) / 16)) (omega arith))
    ] refl

nibble-same : (one : Scenario) (a : List (Option Told)) (other : Scenario) (b : List (Option Told)) (line t : ℕ) →
    SameFrame one a other b t → nibble_at one a line t ≡ nibble_at other b line t
nibble-same one a other b line t same =
    let k = (t - 8) / 16 in
    elim (nat_lt t 8) as (λ c. nat_lt t 8 ≡ c →
    (if c then 0 else slice_index (packet_nibbles (sent_packet one a line k)) ((t - 8) % 16))
    ≡ (if c then 0 else slice_index (packet_nibbles (sent_packet other b line k)) ((t - 8) % 16))) [
      | true ↦ λ e. refl
      | false ↦ λ e.
          let high = ltb-false t 8 e in
          ap (λ source. slice_index (packet_nibbles (telling (telling_at one k) (forward_packet source.table line k)))
          ((t - 8) % 16)) (same.tables.tables (suc k) (omega arith))
          ∙ ap (λ told. slice_index (packet_nibbles (telling told (forward_packet (table_of other b k) line k)))
          ((t - 8) % 16)) (same.tells k (omega arith))
    ] refl

fewer-tables : (one : Scenario) (a : List (Option Told)) (other : Scenario) (b : List (Option Told)) (i n : ℕ) → i ≤ n →
    SameTables one a other b n → SameTables one a other b i
fewer-tables one a other b i n sooner same = record { size = same.size; tables = λ j low. same.tables j (omega arith) }

payload-same : (one : Scenario) (a : List (Option Told)) (other : Scenario) (b : List (Option Told)) (t : ℕ) →
    SameFrame one a other b t → payload_of one a t ≡ payload_of other b t
payload-same one a other b t same =
    let tables = fewer-tables one a other b ((t - 8) / 16) (steps_in (suc t)) (omega arith) same.tables in
    ap (λ n. take (n * width one a t) (drop (place_of one a t) (stream_of (stream_before one a (suc t)).pieces)))
    same.tables.size
    ∙ ap (λ n. take (other.size * n) (drop (place_of one a t) (stream_of (stream_before one a (suc t)).pieces)))
    (width-same one a other b t tables)
    ∙ ap (λ n. take (other.size * width other b t) (drop n (stream_of (stream_before one a (suc t)).pieces)))
    (place_of-same one a other b t tables)
    ∙ ap (λ (s : Stream). take (other.size * width other b t) (drop (place_of other b t) (stream_of s.pieces)))
    same.stream

-- a container, by what it depends on
abbrev pub made_of : ℕ → ℕ → ℕ → List ℕ → ℕ → List ℕ → Container
made_of line t nibble lines size row = record { h4 = 16 * nibble + t % 16; payload = payload_on lines line size row }

container-same : (one : Scenario) (a : List (Option Told)) (other : Scenario) (b : List (Option Told)) (line t : ℕ) →
    SameFrame one a other b t → container_of one a line t ≡ container_of other b line t
container-same one a other b line t same =
    ap (λ nibble. made_of line t nibble (active_at one a t) one.size (payload_of one a t))
    (nibble-same one a other b line t same)
    ∙ ap (λ lines. made_of line t (nibble_at other b line t) lines one.size (payload_of one a t))
    (active-same one a other b t same)
    ∙ ap (λ size. made_of line t (nibble_at other b line t) (active_at other b t) size (payload_of one a t))
    same.tables.size
    ∙ ap (made_of line t (nibble_at other b line t) (active_at other b t) other.size)
    (payload-same one a other b t same)

pub map-same : {X : Type 0} (f g : ℕ → X) → ((line : ℕ) → f line ≡ g line) → (lines : List ℕ) →
    map f lines ≡ map g lines
map-same f g same [] = refl
map-same f g same (line ∷ lines) = ap (λ x. x ∷ map f lines) (same line)
    ∙ ap (λ xs. g line ∷ xs) (map-same f g same lines)

pub same-frame : (one : Scenario) (a : List (Option Told)) (other : Scenario) (b : List (Option Told)) (t : ℕ) →
    SameFrame one a other b t → frame_of one a t ≡ frame_of other b t
same-frame one a other b t same =
    ap (λ n. map (λ line. container_of one a line t) (range_with_len 0 n)) same.lines
    ∙ map-same (λ line. container_of one a line t) (λ line. container_of other b line t)
    (λ line. container-same one a other b line t same) (range_with_len 0 (length other.windows))

pub alike-frame : (one : Scenario) (a : List (Option Told)) (other : Scenario) (b : List (Option Told)) (t : ℕ) →
    Alike one a other b (suc t) → frame_of one a t ≡ frame_of other b t
alike-frame one a other b t alike =
    same-frame one a other b t (record {
      lines = alike.lines;
      tables = record { size = alike.size; tables = λ j low. alike-after one a other b (suc t) j alike low };
      stream = alike-stream one a other b (suc t) alike;
      tells = λ k low. alike.tells k low;
    })

-- the session of what was accepted alone has the same containers
pub replayed-frame : (scenario : Scenario) (cells : List (Option Told)) (t u : ℕ) → u < t →
    frame_of (replayed scenario cells t) cells u ≡ frame_of scenario cells u
replayed-frame scenario cells t u low =
    same-frame (replayed scenario cells t) cells scenario cells u (record {
      lines = refl;
      tables = record { size = refl; tables = λ j near. after-replayed scenario cells t j (omega arith) };
      stream = stream-replayed scenario cells t (suc u) (omega arith);
      tells = λ k near. refl;
    })
