-- The queue in a tick counts the frames that wait once those have landed that land in it.
use Rattle.std.proofs.Common.{◌≡◌, ℕ, zero, suc, ◌+◌, ◌-◌, ◌<◌, ◌≤◌, min, nat_le, nat_lt, Bool, true, false, inl, inr}
use Rattle.std.proofs.Common.{List, [], ◌∷◌, ◌++◌, map, filter, fold, take, length, All, Option, Some, None, option_map}
use Rattle.std.proofs.Common.{refl, sym, ◌∙◌, ap, ap₂, subst, arith, append-nil, append_assoc, length-append, take_at}
use Rattle.std.proofs.Common.{le-leb, lt-ltb, le-ltb, leb-false, ltb-true}
use Rattle.std.specs.Prelude.{if◌then◌else◌}
use Rattle.std.specs.List.Sorted.{IsNonDecreasingBy}
use Rattle.std.proofs.lemmas.Bool.{cases_Bool, cases_lt, lt-leb}
use Rattle.std.proofs.lemmas.List.{length-map}
use Rattle.std.proofs.lemmas.List.Sums.{sum-map}
use Rattle.std.proofs.lemmas.List.Concat.{flat_map-append}
use Rattle.std.proofs.lemmas.List.Elements.{All-nil, All-cons, All-head, All-tail, All-append, All-weaker}
use Rattle.std.proofs.lemmas.List.Elements.{filter-append, filter_passes}
use Rattle.std.proofs.lemmas.List.Sorted.{IsNonDecreasingBy-take}
use Rattle.law_model.proofs.ListLaws.{rest-sorted}
use Rattle.law_model.proofs.StreamOfPiecesLaws.{length-stream_of}
use Rattle.law_model.specs.Common.{Piece, idle, client, Extent, extents, Leg, Counts, IsSound, Scenario, DueFrame, Told}
use Rattle.law_model.specs.Common.{offer_of, offers_of, scenario_by, comes_at, frames_at, Stream, frame_refusal}
use Rattle.law_model.specs.Common.{offered, offered_by, next_by, reaching, place_of, stream_before, size, frames_in}
use Rattle.law_model.specs.Common.{kept_by, accepted_offers, offers_before, frames_before, most_waiting, stream_of}
use Rattle.law_model.specs.Common.{size_of}
use Rattle.law_model.specs.declared.item_refusals.AcceptFault.{AcceptFault}
use Rattle.law_model.specs.declared.item_refusals.Refusal.TheVariants.{Frame as frame_fault}
use Rattle.law_model.specs.declared.script_types.Item.{Item}
use Rattle.law_model.specs.declared.script_types.ItemKind.{ItemKind}
use Rattle.law_model.specs.declared.script_types.ItemKind.TheVariants.{Frame, Add, Remove}
use Rattle.law_session.specs.LandingByStep.{is_come}
use Rattle.law_session.proofs.ClientStreamAndReplayLaws.{stream_before-frames, offered_all-pieces, offers_land}
use Rattle.law_session.proofs.ClientStreamAndReplayLaws.{stream-reaches}
use Rattle.law_loss.proofs.ClientFrameExtentLaws.{filter-none, filter-keep, IsBetween, extents-between, extents-append}
use Rattle.law_loss.proofs.ItemDueTicksLaws.{offers_rise}
use Rattle.law_loss.proofs.SessionStreamLossLaws.{frames-extents, pieces-begin}
use Rattle.law_walk.specs.Common.{IsWalked, session_of, Numbered, is_client, with_if, landed_from, landed_scenario}
use Rattle.law_walk.specs.Common.{told_before, refusal_at, stream_met, frame_by}
use Rattle.law_walk.proofs.AcceptedFrameAndDrainedWalkLaws.{judged, landed-judged, kind-judged, offers_by}
use Rattle.law_walk.proofs.LandedItemRefusalAndTotalLaws.{told-streams}
use Rattle.law_walk.proofs.WalkPlanAndPoppedCellLaws.{sound-walks}
use Rattle.law_live.proofs.QueueAndRoomLaws.{folded-few, stream-few}
use Rattle.fate_engine.specs.Common.{sides, begun_before, Ended, ended_then, ended_on, ended_of}
use Rattle.fate_engine.specs.declared.fate_law.Fate.{Fate}
use Rattle.fate_engine.proofs.FrameFateAndPieceLaws.{place-up}
use Rattle.fate_walks.specs.walk_fates.MadeWalk.{fates_in}
use Rattle.fate_walks.proofs.FatesAndSeenRowsLaws.{with-skips, landed-client, landed-other}
use Rattle.fate_service.specs.FrameColumns.{accepted_of}
use Rattle.fate_service.specs.service_law.LinesAsNumbers.{StretchLine, stretch_line, stretches_in, queue_of, waiting_in}
use Rattle.fate_service.specs.service_law.LineSums.{FollowOn, IsPeak}
use Rattle.fate_service.specs.ServiceText.{known_of, told_of}
use Rattle.fate_service.specs.Stretches.{spans_of}
use Rattle.fate_service.proofs.StretchSumAndQueuePeakLaws.{filter-whole, peak-is, spans-follow}

octets-size : (pieces : List Piece) → length (stream_of pieces) ≡ size pieces
octets-size pieces = length-stream_of pieces ∙ sum-map size_of pieces

-- ---- the frames that are begun by a tick: those that begin before its place
abbrev Begins : ℕ → Extent → Type 0
Begins place e = e.from < place

next-begins : (place : ℕ) (waiting : List (List ℕ)) (pieces : List Piece) → length (stream_of pieces) < place →
    All (Begins place) (extents 0 pieces) → All (Begins place) (extents 0 (next_by waiting pieces).pieces)
unfolding extents
next-begins place [] pieces low all =
    subst (All (Begins place)) (sym (extents-append 0 pieces (idle ∷ []) ∙ append-nil (extents 0 pieces))) all
next-begins place (frame ∷ waiting) pieces low all =
    subst (All (Begins place)) (sym (extents-append 0 pieces (client frame ∷ [])))
    (All-append (Begins place) (extents 0 pieces) (extents (0 + length (stream_of pieces)) (client frame ∷ [])) all
    (All-cons (Begins place) _ [] (omega (arith, low)) (All-nil (Begins place))))

-- ---- how many frames wait once more have landed
offered-waits : (offers : List DueFrame) (stream : Stream) →
    length (fold offered stream (map (λ (offer : DueFrame). offer.frame) offers)).waiting
    ≡ length stream.waiting + length (accepted_offers stream offers)
offered-waits [] stream = omega arith
offered-waits (offer ∷ offers) stream =
    offered-waits offers (offered stream offer.frame)
    ∙ one (frame_refusal offer.frame stream) (accepted_offers (offered stream offer.frame) offers)
  where
    one : (why : Option AcceptFault) (rest : List DueFrame) →
        length (offered_by why offer.frame stream).waiting + length rest
        ≡ length stream.waiting + length (kept_by why offer rest)
    one None rest = let all = length-append stream.waiting (offer.frame ∷ []) in omega arith
    one (Some why) rest = refl

reaching-begins : (steps place : ℕ) (stream : Stream) → All (Begins place) (extents 0 stream.pieces) →
    All (Begins place) (extents 0 (reaching steps place stream).pieces)
unfolding reaching
reaching-begins zero place stream all = all
reaching-begins (suc steps) place stream all =
    elim (nat_le place (size stream.pieces)) as (λ b. nat_le place (size stream.pieces) ≡ b →
    All (Begins place)
    (extents 0 (if b then stream else reaching steps place (next_by stream.waiting stream.pieces)).pieces)) [
      | true ↦ λ e. all
      | false ↦ λ e. reaching-begins steps place (next_by stream.waiting stream.pieces)
          (next-begins place stream.waiting stream.pieces
          (let low = leb-false place (size stream.pieces) e in omega (arith, low, octets-size stream.pieces)) all)
    ] refl

sides-count : (place : ℕ) (all : List Extent) →
    begun_before place (sides all) ≡ length (filter (λ (e : Extent). nat_lt e.from place) all)
sides-count place [] = refl
sides-count place (e ∷ all) =
    let rest = sides-count place all in
    elim (cases_Bool (nat_lt e.from place)) [
      | inl is ↦ rw is (omega (arith, rest))
      | inr isnt ↦ rw isnt rest
    ]

module _ (scenario : Scenario) (cells : List (Option Told)) where
  stream-begins : (t : ℕ) →
      All (Begins (place_of scenario cells t)) (extents 0 (stream_before scenario cells t).pieces)
  unfolding stream_before extents
  stream-begins zero = All-nil (Begins (place_of scenario cells zero))
  stream-begins (suc t) =
      let place = place_of scenario cells (suc t) in
      let stream = fold offered (stream_before scenario cells t) (frames_at scenario t) in
      let up = place-up scenario cells t (suc t) (omega arith) in
      reaching-begins place place stream
      (subst (λ pieces. All (Begins place) (extents 0 pieces))
      (sym (offered_all-pieces (frames_at scenario t) (stream_before scenario cells t)))
      (All-weaker (Begins (place_of scenario cells t)) (Begins place) (λ e low. omega (arith, low, up))
      (extents 0 (stream_before scenario cells t).pieces) (stream-begins t)))

  -- of the frames that are begun by a later tick just those begin before the place of a tick
  begun-by : (t n : ℕ) → t ≤ n →
      begun_before (place_of scenario cells t) (sides (extents 0 (stream_before scenario cells n).pieces))
      ≡ length (frames_in (stream_before scenario cells t).pieces)
  begun-by t n low =
      let place = place_of scenario cells t in
      let front : List Piece = (stream_before scenario cells t).pieces in
      let more = pieces-begin scenario cells t n low in
      let start : ℕ = 0 + length (stream_of front) in
      let test = λ (e : Extent). nat_lt e.from place in
      let reaches = stream-reaches scenario cells t in
      let own : filter test (extents 0 front) ≡ extents 0 front =
      filter-whole test (extents 0 front)
      (All-weaker (Begins place) (λ e. test e ≡ true) (λ e is. lt-ltb e.from place is) (extents 0 front)
      (stream-begins t)) in
      let behind : filter test (extents start more.0) ≡ [] =
      filter-none test (extents start more.0)
      (All-weaker (IsBetween start (start + length (stream_of more.0))) (λ e. test e ≡ false)
      (λ e is. le-ltb e.from place (let from = is.lower in omega (arith, from, reaches)))
      (extents start more.0) (extents-between start more.0)) in
      sides-count place (extents 0 (stream_before scenario cells n).pieces)
      ∙ ap (λ pieces. length (filter test (extents 0 pieces))) more.1
      ∙ ap (λ l. length (filter test l)) (extents-append 0 front more.0)
      ∙ ap length (filter-append test (extents 0 front) (extents start more.0))
      ∙ ap₂ (λ a b. length (a ++ b)) own behind
      ∙ ap length (append-nil (extents 0 front))
      ∙ sym (length-map (extents 0 front) (λ (e : Extent). e.frame))
      ∙ ap length (frames-extents 0 front)

  -- what was accepted in the ticks up to one is begun before it, or waits once it has landed
  known-by : (t : ℕ) → length (frames_before scenario cells (suc t))
      ≡ length (frames_in (stream_before scenario cells t).pieces)
      + length (fold offered (stream_before scenario cells t) (frames_at scenario t)).waiting
  unfolding offers_before
  known-by t =
      let stream = stream_before scenario cells t in
      let come = filter (comes_at t) scenario.offers in
      let all = length-map (offers_before scenario cells t ++ accepted_offers stream come)
      (λ (offer : DueFrame). offer.frame) in
      let parts = length-append (offers_before scenario cells t) (accepted_offers stream come) in
      let before = length-map (offers_before scenario cells t) (λ (offer : DueFrame). offer.frame) in
      let known = ap length (stream_before-frames scenario cells t) in
      let both = length-append (frames_in stream.pieces) stream.waiting in
      let now = offered-waits come stream in
      omega (arith, all, parts, before, known, both, now)

-- ---- the due ticks of the frames that have landed and were accepted
abbrev kept-due : Option AcceptFault → ℕ → List ℕ
kept-due None due = due ∷ []
kept-due (Some why) due = []

pub client-is : (kind : ItemKind) → is_client kind ≡ true → (octets : List ℕ) × (kind ≡ Frame octets)
client-is (Frame octets) is = (octets, refl)
client-is (Add line) is = absurd (let e : false ≡ true = is in cc)
client-is (Remove line) is = absurd (let e : false ≡ true = is in cc)

pub offers-none : (item : Item) → is_client item.kind ≡ false → offers_by item ≡ []
offers-none item other = by item.kind refl other
  where
    by : (kind : ItemKind) → item.kind ≡ kind → is_client item.kind ≡ false → offer_of item.due item.kind ≡ []
    by (Frame octets) is other = absurd (let e : true ≡ false = rw is at other in cc)
    by (Add line) is other = rw is refl
    by (Remove line) is other = rw is refl

module _ (leg : Leg) where
  abbrev own-scenario : Scenario
  own-scenario = scenario_by leg

  abbrev own-cells : List (Option Told)
  own-cells = session_of leg

  -- those of offers that come behind others
  unfoldable dues-kept : List DueFrame → List DueFrame → List ℕ
  dues-kept before [] = []
  dues-kept before (offer ∷ offers) =
      kept-due (frame_refusal offer.frame (stream_met own-scenario own-cells offer.due before)) offer.due
      ++ dues-kept (before ++ offer ∷ []) offers

  dues-none : (before : List DueFrame) (a : ℕ) → dues-kept before (take a []) ≡ []
  unfolding dues-kept
  dues-none before zero = refl
  dues-none before (suc a) = refl

  module _ (fate : ℕ → Fate) where
    abbrev Landed : List Numbered → ℕ → List ℕ
    Landed items n = accepted_of (ended_on leg fate items n)

    then-dues : (item : Numbered) (octets : List ℕ) (found : Option AcceptFault) (n : ℕ) (others : ℕ → List Ended)
        (rest : List ℕ) → ((m : ℕ) → accepted_of (others m) ≡ rest) →
        accepted_of (ended_then fate item (option_map frame_fault found) (Frame octets) n others)
        ≡ kept-due found item.item.due ++ rest
    then-dues item octets None n others rest each = ap (λ l. item.item.due ∷ l) (each (suc n))
    then-dues item octets (Some why) n others rest each = each n

    front-dues : (item : Item) (front : List Item) (octets : List ℕ) (items : List Numbered) (dues : List ℕ)
        (n : ℕ) → item.kind ≡ Frame octets → take (length front) leg.items ≡ front →
        ((m : ℕ) → Landed items m ≡ dues) →
        Landed (record { number = length front; item = item } ∷ items) n
        ≡ kept-due (frame_refusal octets (stream_met own-scenario own-cells item.due (offers_of front))) item.due
        ++ dues
    unfolding ended_on
    front-dues item front octets items dues n is first each =
        let own : Numbered = record { number = length front; item = item } in
        let found : Option AcceptFault =
        frame_refusal octets (stream_met own-scenario own-cells item.due (offers_of front)) in
        let why : refusal_at leg own ≡ option_map frame_fault found = rw (is, first) refl in
        ap₂ (λ why kind. accepted_of (ended_then fate own why kind n (ended_on leg fate items))) why is
        ∙ then-dues own octets found n (ended_on leg fate items) dues each

    landed-dues : (rest front : List Item) (a b n : ℕ) → leg.items ≡ front ++ rest →
        Landed (landed_from a b (length front) rest) n ≡ dues-kept (offers_of front) (take a (offers_of rest))
    unfolding landed_from ended_on dues-kept
    landed-dues [] front a b n parts = sym (dues-none (offers_of front) a)
    landed-dues (item ∷ rest) front a b n parts =
        let longer : leg.items ≡ (front ++ item ∷ []) ++ rest = parts ∙ sym (append_assoc front (item ∷ []) rest) in
        let size : length (front ++ item ∷ []) ≡ suc (length front) = let e = length-append front (item ∷ []) in
        omega arith in
        let offers : offers_of (front ++ item ∷ []) ≡ offers_of front ++ offers_by item =
        flat_map-append offers_by front (item ∷ []) ∙ ap (λ l. offers_of front ++ l) (append-nil (offers_by item)) in
        let first : take (length front) leg.items ≡ front = ap (take (length front)) parts
        ∙ take_at front (item ∷ rest) (length front) refl in
        let own : Numbered = record { number = length front; item = item } in
        let next : (a b n : ℕ) → Landed (landed_from a b (suc (length front)) rest) n
        ≡ dues-kept (offers_of front ++ offers_by item) (take a (offers_of rest)) =
        λ a b n. ap (λ i. Landed (landed_from a b i rest) n) (sym size)
        ∙ landed-dues rest (front ++ item ∷ []) a b n longer
        ∙ ap (λ before. dues-kept before (take a (offers_of rest))) offers in
        elim (cases_Bool (is_client item.kind)) [
          | inl is ↦ clients a first next is
          | inr other ↦ ap (λ l. Landed l n) (landed-other leg fate a b (length front) item rest other)
              ∙ ap accepted_of
              (with-skips leg fate (nat_lt 0 b) own (landed_from a (b - 1) (suc (length front)) rest) n other)
              ∙ next a (b - 1) n
              ∙ ap (λ l. dues-kept (offers_of front ++ l) (take a (offers_of rest))) (offers-none item other)
              ∙ ap₂ (λ before l. dues-kept before (take a l)) (append-nil (offers_of front))
              (ap (λ l. l ++ offers_of rest) (sym (offers-none item other)))
        ]
      where
        clients : (a : ℕ) → take (length front) leg.items ≡ front →
            ((a b n : ℕ) → Landed (landed_from a b (suc (length front)) rest) n
            ≡ dues-kept (offers_of front ++ offers_by item) (take a (offers_of rest))) → is_client item.kind ≡ true →
            Landed (landed_from a b (length front) (item ∷ rest)) n
            ≡ dues-kept (offers_of front) (take a (offers_by item ++ offers_of rest))
        clients zero first next own_kind =
            let less : 0 - 1 ≡ 0 = omega arith in
            ap (λ l. Landed l n) (landed-client leg fate 0 b (length front) item rest own_kind)
            ∙ ap (λ a. Landed (landed_from a b (suc (length front)) rest) n) less ∙ next 0 b n
        clients (suc a) first next own_kind =
            let less : suc a - 1 ≡ a = omega arith in
            let some : nat_lt 0 (suc a) ≡ true = lt-ltb 0 (suc a) (omega arith) in
            let own : Numbered = record { number = length front; item = item } in
            let (octets, is) = client-is item.kind own_kind in
            let offer : DueFrame = record { due = item.due; frame = octets } in
            let one : offers_by item ≡ offer ∷ [] = ap (offer_of item.due) is in
            let kept : List ℕ = kept-due
            (frame_refusal octets (stream_met own-scenario own-cells item.due (offers_of front))) item.due in
            ap (λ l. Landed l n) (landed-client leg fate (suc a) b (length front) item rest own_kind)
            ∙ ap (λ there. Landed (with_if there own (landed_from (suc a - 1) b (suc (length front)) rest)) n) some
            ∙ front-dues item front octets (landed_from (suc a - 1) b (suc (length front)) rest)
            (dues-kept (offers_of front ++ offers_by item) (take a (offers_of rest))) n is first
            (λ m. ap (λ a. Landed (landed_from a b (suc (length front)) rest) m) less ∙ next a b m)
            ∙ ap (λ l. kept ++ dues-kept (offers_of front ++ l) (take a (offers_of rest))) one
            ∙ sym (ap (λ l. dues-kept (offers_of front) (take (suc a) (l ++ offers_of rest))) one)

-- ---- those up to a tick are as many as the frames that are accepted by then
abbrev item_of : DueFrame → Item
item_of offer = record { due = offer.due; kind = Frame offer.frame }

items-offers : (offers : List DueFrame) → offers_of (map item_of offers) ≡ offers
items-offers [] = refl
items-offers (offer ∷ offers) = ap (λ l. offer ∷ l) (items-offers offers)

abbrev accepted-frame : Option AcceptFault → List ℕ → List (List ℕ)
accepted-frame found frame = frame_by (option_map frame_fault found) (Frame frame)

module _ (scenario : Scenario) (cells : List (Option Told)) where
  judged-none : (before : List DueFrame) → judged scenario cells before [] ≡ []
  unfolding judged
  judged-none before = refl

  judged-next : (before more : List DueFrame) (offer : DueFrame) → judged scenario cells before (offer ∷ more)
      ≡ accepted-frame (frame_refusal offer.frame (stream_met scenario cells offer.due before)) offer.frame
      ++ judged scenario cells (before ++ offer ∷ []) more
  judged-next before more offer =
      subst (λ (b : List DueFrame). judged scenario cells b (offer ∷ more)
      ≡ accepted-frame (frame_refusal offer.frame (stream_met scenario cells offer.due b)) offer.frame
      ++ judged scenario cells (b ++ offer ∷ []) more) (items-offers before)
      (sym (kind-judged scenario cells offer.due (map item_of before) (Frame offer.frame) more))

module _ (leg : Leg) (t : ℕ) where
  abbrev IsLate : DueFrame → Type 0
  IsLate offer = t < offer.due

  abbrev by_now : ℕ → Bool
  by_now due = nat_le due t

  late-none : (xs before : List DueFrame) → All IsLate xs → filter by_now (dues-kept leg before xs) ≡ []
  unfolding dues-kept
  late-none [] before late = refl
  late-none (x ∷ xs) before late =
      one (frame_refusal x.frame (stream_met (scenario_by leg) (session_of leg) x.due before))
      (dues-kept leg (before ++ x ∷ []) xs) (late-none xs (before ++ x ∷ []) (All-tail IsLate x xs late))
    where
      one : (found : Option AcceptFault) (dues : List ℕ) → filter by_now dues ≡ [] →
          filter by_now (kept-due found x.due ++ dues) ≡ []
      one None dues none = rw (lt-leb x.due t (All-head IsLate x xs late)) none
      one (Some why) dues none = none

  dues-by : (xs before : List DueFrame) → IsNonDecreasingBy (λ (offer : DueFrame). offer.due) xs →
      length (filter by_now (dues-kept leg before xs))
      ≡ length (judged (scenario_by leg) (session_of leg) before (filter (is_come (suc t)) xs))
  unfolding dues-kept
  dues-by [] before sorted = sym (ap length (judged-none (scenario_by leg) (session_of leg) before))
  dues-by (x ∷ xs) before sorted =
      let scenario = scenario_by leg in
      let cells = session_of leg in
      elim (cases_lt t x.due) [
        | inl late ↦
            let all : All IsLate (x ∷ xs) =
            λ k d inside. (let up = sorted 0 k d (omega arith) inside in omega (arith, up, late)) in
            let none : filter (is_come (suc t)) (x ∷ xs) ≡ [] =
            filter-none (is_come (suc t)) (x ∷ xs)
            (All-weaker IsLate (λ (offer : DueFrame). is_come (suc t) offer ≡ false)
            (λ offer is. le-ltb offer.due (suc t) (omega (arith, is))) (x ∷ xs) all) in
            ap length (late-none (x ∷ xs) before all)
            ∙ sym (ap (λ l. length (judged scenario cells before l)) none
            ∙ ap length (judged-none scenario cells before))
        | inr come ↦
            let is : is_come (suc t) x ≡ true = lt-ltb x.due (suc t) (omega (arith, come)) in
            let rest = filter (is_come (suc t)) xs in
            one (frame_refusal x.frame (stream_met scenario cells x.due before)) (dues-kept leg (before ++ x ∷ []) xs)
            (judged scenario cells (before ++ x ∷ []) rest) come
            (dues-by xs (before ++ x ∷ []) (rest-sorted (λ (offer : DueFrame). offer.due) x xs sorted))
            ∙ sym (ap length (judged-next scenario cells before rest x))
            ∙ sym (ap (λ l. length (judged scenario cells before l)) (filter-keep (is_come (suc t)) x xs is))
      ]
    where
      one : (found : Option AcceptFault) (dues : List ℕ) (frames : List (List ℕ)) → x.due ≤ t →
          length (filter by_now dues) ≡ length frames →
          length (filter by_now (kept-due found x.due ++ dues)) ≡ length (accepted-frame found x.frame ++ frames)
      one None dues frames low same = rw (le-leb x.due t low) (omega (arith, same))
      one (Some why) dues frames low same = same

-- ---- offers that land by a tick that is made are judged by the streams that they make themselves
module _ (leg : Leg) (s : Counts) (sound : IsSound leg) (walked : IsWalked leg s) where
  abbrev landed-only : Scenario
  landed-only = landed_scenario leg s

  abbrev landed-cells : List (Option Told)
  landed-cells = told_before leg s.ticks

  abbrev InTime : DueFrame → Type 0
  InTime offer = offer.due ≤ s.ticks

  judged-same : (xs before : List DueFrame) → All InTime xs →
      judged (scenario_by leg) (session_of leg) before xs ≡ judged landed-only landed-cells before xs
  judged-same [] before low =
      judged-none (scenario_by leg) (session_of leg) before ∙ sym (judged-none landed-only landed-cells before)
  judged-same (x ∷ xs) before low =
      let streams = told-streams leg s (sound-walks leg sound) walked x.due (All-head InTime x xs low) in
      let met = ap (λ stream. fold offered stream (map (λ (offer : DueFrame). offer.frame)
      (filter (comes_at x.due) before))) (sym streams) in
      judged-next (scenario_by leg) (session_of leg) before xs x
      ∙ ap₂ (λ stream l. accepted-frame (frame_refusal x.frame stream) x.frame ++ l) met
      (judged-same xs (before ++ x ∷ []) (All-tail InTime x xs low))
      ∙ sym (judged-next landed-only landed-cells before xs x)

  pub queue-waits : (t : ℕ) → t ≤ s.ticks → queue_of leg s t ≡ length (waiting_in leg s t)
  queue-waits t low =
      let offers : List DueFrame = take s.frames (offers_of leg.items) in
      let come : List DueFrame = filter (is_come (suc t)) offers in
      let rises = IsNonDecreasingBy-take (λ (offer : DueFrame). offer.due) s.frames (offers_of leg.items)
      (offers_rise leg.items sound.items.frames) in
      let soon : All InTime come =
      All-weaker (λ (offer : DueFrame). is_come (suc t) offer ≡ true) InTime
      (λ offer is. (let early = ltb-true offer.due (suc t) is in omega (arith, early, low))) come
      (filter_passes (is_come (suc t)) offers) in
      let count : length (filter (λ due. nat_le due t) (accepted_of (ended_of leg s)))
      ≡ length (frames_in (stream_before (scenario_by leg) (session_of leg) t).pieces)
      + length (waiting_in leg s t) =
      ap (λ l. length (filter (λ due. nat_le due t) l))
      (landed-dues leg (fates_in leg s.rows) leg.items [] s.frames s.commands 0 refl)
      ∙ dues-by leg t offers [] rises
      ∙ ap length (judged-same come [] soon)
      ∙ ap (λ l. length (judged landed-only landed-cells [] l)) (sym (offers_land offers (suc t) rises))
      ∙ ap length (landed-judged landed-only landed-cells (suc t))
      ∙ known-by landed-only landed-cells t
      ∙ ap (λ stream. length (frames_in stream.pieces)
      + length (fold offered stream (frames_at landed-only t)).waiting)
      (told-streams leg s (sound-walks leg sound) walked t low) in
      let begun = ap (λ n. begun_before (place_of (scenario_by leg) (session_of leg) n)
      (sides (extents 0 (stream_before (scenario_by leg) (session_of leg) s.ticks).pieces)))
      (let e : min s.ticks t ≡ t = omega arith in e)
      ∙ begun-by (scenario_by leg) (session_of leg) t s.ticks low in
      omega (arith, count, begun)

  pub queue-few : (t : ℕ) → t ≤ s.ticks → queue_of leg s t ≤ most_waiting
  queue-few t low =
      let same = queue-waits t low in
      let few = folded-few (frames_at landed-only t) (stream_before (scenario_by leg) (session_of leg) t)
      (stream-few (scenario_by leg) (session_of leg) t) in
      omega (arith, same, few)

-- ---- a stretch has the greatest queue of its ticks
abbrev HasPeak : Leg → Counts → StretchLine → Type 0
HasPeak leg s line = IsPeak (queue_of leg s) line.first line.end line.counts.peak

parts-peaks : (leg : Leg) (s : Counts) (from : ℕ) (parts : List (ℕ × ℕ)) (end : ℕ) → FollowOn from parts end →
    All (HasPeak leg s) (map (stretch_line (known_of leg s)) parts)
unfolding FollowOn
parts-peaks leg s from [] end follow = All-nil (HasPeak leg s)
parts-peaks leg s from (part ∷ parts) end follow =
    let known = known_of leg s in
    All-cons (HasPeak leg s) (stretch_line known part) (map (stretch_line known) parts)
    (peak-is (queue_of leg s) part.0 part.1 follow.1) (parts-peaks leg s part.1 parts end follow.2)

pub stretch-peaks : (leg : Leg) (s : Counts) (interval : ℕ) → 1 ≤ interval →
    All (HasPeak leg s) (stretches_in leg s interval)
stretch-peaks leg s interval some =
    parts-peaks leg s 0 (spans_of interval (told_of leg s)) (told_of leg s)
    (spans-follow interval (told_of leg s) some)
