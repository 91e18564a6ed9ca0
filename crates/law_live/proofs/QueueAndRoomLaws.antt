-- What the lines of the queue tell (queues_told), and how many frames may be said by what is reckoned of them (reckoned).
use Rattle.std.proofs.Common.{◌≡◌, ℕ, zero, suc, ◌+◌, ◌<◌, ◌≤◌, ◌==◌, ◌||◌, nat_le, nat_lt, true, false, inl, inr, List}
use Rattle.std.proofs.Common.{take, [], ◌∷◌, ◌++◌, map, filter, fold, length, if◌then◌else◌, Option, Some, None, option_map}
use Rattle.std.proofs.Common.{refl, sym, ◌∙◌, ap, ap₂, subst, arith, append-nil, length-append, All, leb-false}
use Rattle.std.proofs.Math.Seq.{take-append_seam}
use Rattle.std.proofs.lemmas.Bool.{cases_Bool, eqb-false, eqb-true}
use Rattle.std.proofs.lemmas.Bool.Decides.{nat_tests}
use Rattle.std.proofs.lemmas.Grind.{flat_map-append}
use Rattle.std.proofs.lemmas.List.{length-map, map-append}
use Rattle.std.proofs.lemmas.List.Elements.{All-head, All-tail, filter-append}
use Rattle.std.proofs.lemmas.List.Sums.{fold-append}
use Rattle.law_model.specs.Common.{Counts, DueFrame, IsSound, Leg, Piece, Scenario, Stream, Told, begin, comes_at}
use Rattle.law_model.specs.Common.{frame_refusal, frames_at, frames_before, frames_in, longest_frame, most_waiting, next_by}
use Rattle.law_model.specs.Common.{offer_of, offered, offered_by, offers_of, place_of, reaching, scenario_by}
use Rattle.law_model.specs.Common.{shortest_frame, size, steps_in, stream_before}
use Rattle.law_model.specs.declared.item_refusals.AcceptFault.{AcceptFault}
use Rattle.law_model.specs.declared.item_refusals.AcceptFault.TheVariants.{Length, QueueFull}
use Rattle.law_model.specs.declared.item_refusals.Refusal.{Refusal}
use Rattle.law_model.specs.declared.item_refusals.Refusal.TheVariants.{Frame as frame_fault}
use Rattle.law_model.specs.declared.script_types.Config.{Config}
use Rattle.law_model.specs.declared.script_types.Item.{Item}
use Rattle.law_model.specs.declared.script_types.ItemKind.{ItemKind}
use Rattle.law_model.specs.declared.script_types.ItemKind.TheVariants.{Frame, Add, Remove}
use Rattle.law_progress.specs.Progress.{Fits, IsPlanOf}
use Rattle.law_progress.proofs.RoundProgressAndDrainLaws.{begin-fits}
use Rattle.law_session.proofs.ClientStreamAndReplayLaws.{stream_before-frames}
use Rattle.law_walk.specs.Common.{kind_refusal, refusal_at, session_of, stream_met, walk_plan}
use Rattle.law_walk.specs.DeliveredFrames.{delivered_since}
use Rattle.law_walk.proofs.LandedItemRefusalAndTotalLaws.{frame-dues}
use Rattle.law_walk.proofs.WalkPlanAndPoppedCellLaws.{has-plan, sound-walks}
use Rattle.law_live.specs.Common.{Agrees, AreOthers, CanSay, CanSayAll, HasLater, IsWellSaid, Live, Reckoned, Saying}
use Rattle.law_live.specs.Common.{accepted_one, answers, answers_from, answers_to, changed_number, counts_from, counts_said, cuts}
use Rattle.law_live.specs.Common.{got_at, item_answers, item_at, lands, last_number, live_after, live_counts, live_from, live_of}
use Rattle.law_live.specs.Common.{live_round, mends, next_item, opened, pass_ends, passes, queue_of, queues_told}
use Rattle.law_live.specs.Common.{reckoned, reckoned_from, reckoned_to, refused_answer, refused_item, round_answers}
use Rattle.law_live.specs.Common.{rounds_answers, rounds_for, steps_between, waiting_at}
use Rattle.law_live.specs.LiveSayings.{frames_in as frames_in_live}
use Rattle.law_live.proofs.AgreeingLegConversationLaws.{agrees-before, agrees-number, agrees-stands, can-back, can-leg}
use Rattle.law_live.proofs.AgreeingLegConversationLaws.{live-more, well-front}
use Rattle.law_live.proofs.AnsweredFrameAndRefusalLaws.{lands-ticks}
use Rattle.law_live.proofs.ConversationCountAndScriptLaws.{Stands, fits-after, later-all, later-less, stands-after}
use Rattle.law_live.proofs.ConversationCountAndScriptLaws.{stands-begun}
use Rattle.law_live.proofs.SamePastRoundAndAnswerLaws.{first-items}

-- ---- no more than 256 wait
abbrev pub Few : Stream → Type 0
Few stream = length stream.waiting ≤ most_waiting

offered-few : (frame : List ℕ) (stream : Stream) → Few stream → Few (offered stream frame)
offered-few frame stream few =
    elim (nat_lt (length frame) shortest_frame || nat_lt longest_frame (length frame)) as (λ odd. Few (offered_by
    (if odd then Some (Length (length frame))
    else if nat_le most_waiting (length stream.waiting) then Some (QueueFull most_waiting) else None) frame stream)) [
      | true ↦ few
      | false ↦ elim (nat_le most_waiting (length stream.waiting))
          as (λ full. nat_le most_waiting (length stream.waiting) ≡ full →
          Few (offered_by (if full then Some (QueueFull most_waiting) else None) frame stream)) [
            | true ↦ λ e. few
            | false ↦ λ e.
                let room = leb-false most_waiting (length stream.waiting) e in
                let all = length-append stream.waiting (frame ∷ []) in omega arith
          ] refl
    ]

pub folded-few : (frames : List (List ℕ)) (stream : Stream) → Few stream → Few (fold offered stream frames)
folded-few [] stream few = few
folded-few (frame ∷ frames) stream few = folded-few frames (offered stream frame) (offered-few frame stream few)

next-few : (waiting : List (List ℕ)) (pieces : List Piece) → length waiting ≤ most_waiting → Few (next_by waiting pieces)
next-few [] pieces few = omega arith
next-few (frame ∷ waiting) pieces few = omega arith

reaching-few : (steps place : ℕ) (stream : Stream) → Few stream → Few (reaching steps place stream)
unfolding reaching
reaching-few zero place stream few = few
reaching-few (suc steps) place stream few =
    elim (nat_le place (size stream.pieces))
    as (λ b. Few (if b then stream else reaching steps place (next_by stream.waiting stream.pieces))) [
      | true ↦ few
      | false ↦ reaching-few steps place (next_by stream.waiting stream.pieces)
          (next-few stream.waiting stream.pieces few)
    ]

pub stream-few : (scenario : Scenario) (cells : List (Option Told)) (t : ℕ) → Few (stream_before scenario cells t)
unfolding stream_before
stream-few scenario cells zero = omega arith
stream-few scenario cells (suc t) =
    reaching-few (place_of scenario cells (suc t)) (place_of scenario cells (suc t))
    (fold offered (stream_before scenario cells t) (frames_at scenario t))
    (folded-few (frames_at scenario t) (stream_before scenario cells t) (stream-few scenario cells t))

pub queue-few : (leg : Leg) (ticks : ℕ) → waiting_at leg ticks ≤ 256
queue-few leg ticks = stream-few (scenario_by leg) (session_of leg) ticks

pub queue-waits : (leg : Leg) (ticks : ℕ) →
    length (frames_in (stream_before (scenario_by leg) (session_of leg) ticks).pieces) + waiting_at leg ticks
    ≡ length (frames_before (scenario_by leg) (session_of leg) ticks)
queue-waits leg ticks =
    let stream : Stream = stream_before (scenario_by leg) (session_of leg) ticks in
    let all = ap length (stream_before-frames (scenario_by leg) (session_of leg) ticks) in
    let parts = length-append (frames_in stream.pieces) stream.waiting in
    omega (arith, all, parts)

pub none-wait : (leg : Leg) → waiting_at leg 0 ≡ 0
unfolding stream_before
none-wait leg = refl

-- ---- numbers one behind the other
last-more : (was : ℕ) (xs ys : List ℕ) → last_number was (xs ++ ys) ≡ last_number (last_number was xs) ys
unfolding last_number
last-more was [] ys = refl
last-more was (number ∷ xs) ys = last-more number xs ys

others-more : (was : ℕ) (xs ys : List ℕ) → AreOthers was xs → AreOthers (last_number was xs) ys → AreOthers was (xs ++ ys)
unfolding AreOthers last_number
others-more was [] ys first second = second
others-more was (number ∷ xs) ys first second = (first.0, others-more number xs ys first.1 second)

-- from some ticks to others these are told
pub record Tells (leg : Leg) (was now : ℕ) (queues : List ℕ) : Type 0 where
  pub others : AreOthers (waiting_at leg was) queues
  pub last : last_number (waiting_at leg was) queues ≡ waiting_at leg now

pub tells-none : (leg : Leg) (was now : ℕ) (queues : List ℕ) → queues ≡ [] → was ≡ now → Tells leg was now queues
unfolding AreOthers last_number
tells-none leg was now queues none same =
    subst (Tells leg was now) (sym none) (record { others = tt; last = ap (waiting_at leg) same })

pub tells-since : (leg : Leg) (was now : ℕ) → Tells leg was now (changed_number (waiting_at leg was) (waiting_at leg now))
unfolding AreOthers last_number
tells-since leg was now = elim (cases_Bool (waiting_at leg now == waiting_at leg was)) [
  | inl e ↦ rw e (record { others = tt; last = sym (eqb-true (waiting_at leg now) (waiting_at leg was) e) })
  | inr e ↦ rw e (record { others = (eqb-false (waiting_at leg now) (waiting_at leg was) e, tt); last = refl })
]

pub tells-more : (leg : Leg) (a b c : ℕ) (xs ys : List ℕ) → Tells leg a b xs → Tells leg b c ys → Tells leg a c (xs ++ ys)
tells-more leg a b c xs ys first second = record {
  others = others-more (waiting_at leg a) xs ys first.others
      (subst (λ n. AreOthers n ys) (sym first.last) second.others);
  last = last-more (waiting_at leg a) xs ys ∙ ap (λ n. last_number n ys) first.last ∙ second.last;
}

-- ---- what is answered to a saying
pub queues-step : (was now : ℕ) → queues_told (steps_between was now) ≡ []
queues-step was now = elim (cases_Bool (nat_lt (steps_in was) (steps_in now))) [ inl e ↦ rw e refl | inr e ↦ rw e refl ]

pub queues-frames : (ticks : ℕ) (frames : List (List ℕ)) → queues_told (map (got_at ticks) frames) ≡ []
queues-frames ticks [] = refl
queues-frames ticks (frame ∷ frames) = queues-frames ticks frames

queues-rounds : (n : ℕ) (leg : Leg) (s : Counts) → queues_told (rounds_answers n leg s) ≡ []
unfolding rounds_answers
queues-rounds zero leg s = refl
queues-rounds (suc n) leg s =
    let next : Counts = live_round (walk_plan leg) s in
    let frames : List (List ℕ) = delivered_since leg s.rows next.rows in
    flat_map-append queue_of (round_answers leg s next) (rounds_answers n leg next)
    ∙ ap₂ ◌++◌
    (flat_map-append queue_of (steps_between s.ticks next.ticks) (map (got_at next.ticks) frames)
    ∙ ap₂ ◌++◌ (queues-step s.ticks next.ticks) (queues-frames next.ticks frames))
    (queues-rounds n leg next)

pub queues-refused : (number : ℕ) (why : Option Refusal) → queues_told (refused_answer number why) ≡ []
queues-refused number None = refl
queues-refused number (Some why) = refl

tells-to : (leg : Leg) (s : Counts) (saying : Saying) →
    Tells leg s.ticks (counts_said (walk_plan leg) s saying).ticks (queues_told (answers_to leg s saying))
tells-to leg s (lands kind) =
    tells-none leg s.ticks (counts_said (walk_plan leg) s (lands kind)).ticks (queues_told (item_answers leg s kind))
    (queues-refused (s.frames + s.commands) (refusal_at leg (next_item s kind))) (sym (lands-ticks (walk_plan leg) s kind))
tells-to leg s (cuts m) = tells-none leg s.ticks s.ticks [] refl refl
tells-to leg s (mends m) = tells-none leg s.ticks s.ticks [] refl refl
tells-to leg s (passes k) =
    let rounds = rounds_answers (rounds_for k (walk_plan leg) s) leg s in
    let now : ℕ = (counts_said (walk_plan leg) s (passes k)).ticks in
    subst (Tells leg s.ticks now)
    (sym (flat_map-append queue_of rounds (pass_ends leg s.ticks now)
    ∙ ap₂ ◌++◌ (queues-rounds (rounds_for k (walk_plan leg) s) leg s) (append-nil (changed_number (waiting_at leg s.ticks) (waiting_at leg now)))))
    (tells-since leg s.ticks now)

tells-all : (said : List Saying) (leg : Leg) (s : Counts) →
    Tells leg s.ticks (counts_from (walk_plan leg) s said).ticks (queues_told (answers_from leg s said))
unfolding answers_from counts_from
tells-all [] leg s = tells-none leg s.ticks s.ticks [] refl refl
tells-all (saying ∷ said) leg s =
    let next : Counts = counts_said (walk_plan leg) s saying in
    subst (Tells leg s.ticks (counts_from (walk_plan leg) next said).ticks)
    (sym (flat_map-append queue_of (answers_to leg s saying) (answers_from leg next said)))
    (tells-more leg s.ticks next.ticks (counts_from (walk_plan leg) next said).ticks
    (queues_told (answers_to leg s saying)) (queues_told (answers_from leg next said)) (tells-to leg s saying)
    (tells-all said leg next))

pub queues-differ : (leg : Leg) (said : List Saying) → AreOthers 0 (queues_told (answers leg said))
queues-differ leg said =
    subst (λ n. AreOthers n (queues_told (answers leg said))) (none-wait leg)
    (tells-all said leg (begin (walk_plan leg))).others

pub queues-last : (leg : Leg) (said : List Saying) →
    last_number 0 (queues_told (answers leg said)) ≡ waiting_at leg (live_counts leg said).ticks
queues-last leg said =
    ap (λ n. last_number n (queues_told (answers leg said))) (sym (none-wait leg))
    ∙ (tells-all said leg (begin (walk_plan leg))).last

-- ---- how many wait beside those that were said since
-- the stream as the next frame finds it
abbrev pub met : Leg → Live → Stream
met leg live = stream_met (scenario_by leg) (session_of leg) live.passed (offers_of live.items)

pub record Reckons (leg : Leg) (live : Live) (s : Counts) (is : Reckoned) : Type 0 where
  pub queue : is.queue ≡ waiting_at leg s.ticks
  pub sum : length (met leg live).waiting ≡ is.queue + is.since

-- ---- an item
abbrev given : ItemKind → Stream → Stream
given (Frame octets) stream = offered stream octets
given (Add line) stream = stream
given (Remove line) stream = stream

abbrev come : ℕ → List DueFrame → List (List ℕ)
come due offers = map (λ (offer : DueFrame). offer.frame) (filter (comes_at due) offers)

come-more : (due : ℕ) (offers more : List DueFrame) → come due (offers ++ more) ≡ come due offers ++ come due more
come-more due offers more =
    ap (map (λ (offer : DueFrame). offer.frame)) (filter-append (comes_at due) offers more)
    ∙ map-append (λ (offer : DueFrame). offer.frame) (filter (comes_at due) offers) (filter (comes_at due) more)

come-own : (due : ℕ) (octets : List ℕ) → come due (record { due = due; frame = octets } ∷ []) ≡ octets ∷ []
come-own due octets = let e : nat_le due due ≡ true = grind arith in rw e refl

met-land : (leg : Leg) (live : Live) (kind : ItemKind) → met leg (live_after live (lands kind)) ≡ given kind (met leg live)
met-land leg live kind =
    let offer : Item → List DueFrame = λ (item : Item). offer_of item.due item.kind in
    let before : Stream = stream_before (scenario_by leg) (session_of leg) live.passed in
    ap (λ frames. fold offered before frames)
    (ap (come live.passed)
    (flat_map-append offer live.items (item_at live.passed kind ∷ [])
    ∙ ap (λ l. offers_of live.items ++ l) (append-nil (offer_of live.passed kind)))
    ∙ come-more live.passed (offers_of live.items) (offer_of live.passed kind))
    ∙ fold-append offered before (come live.passed (offers_of live.items)) (come live.passed (offer_of live.passed kind))
    ∙ by kind
  where
    by : (kind : ItemKind) → fold offered (met leg live) (come live.passed (offer_of live.passed kind)) ≡ given kind (met leg live)
    by (Frame octets) = ap (fold offered (met leg live)) (come-own live.passed octets)
    by (Add line) = refl
    by (Remove line) = refl

-- it is accepted where nothing is answered
offered-waits : (number : ℕ) (octets : List ℕ) (stream : Stream) (why : Option AcceptFault) →
    length (offered_by why octets stream).waiting
    ≡ length stream.waiting + accepted_one (Frame octets) (refused_answer number (option_map frame_fault why))
offered-waits number octets stream None = length-append stream.waiting (octets ∷ [])
offered-waits number octets stream (Some why) = omega arith

-- why it is refused
pub next-refusal : (leg : Leg) (live : Live) (s : Counts) (octets : List ℕ) → Stands live s → HasLater live leg.items →
    refusal_at leg (next_item s (Frame octets)) ≡ option_map frame_fault (frame_refusal octets (met leg live))
next-refusal leg live s octets stands more =
    ap₂ (λ t earlier. kind_refusal (scenario_by leg) (session_of leg) t earlier (Frame octets)) stands.ticks
    (first-items live s leg.items stands more)

pub reckons-land : (leg : Leg) (live : Live) (s : Counts) (kind : ItemKind) (was : Reckoned) → Stands live s →
    HasLater live leg.items → Reckons leg live s was →
    Reckons leg (live_after live (lands kind)) (counts_said (walk_plan leg) s (lands kind))
    (reckoned_to (lands kind) (item_answers leg s kind) was)
reckons-land leg live s kind was stands more reckons = record {
  queue = reckons.queue ∙ ap (waiting_at leg) (sym (lands-ticks (walk_plan leg) s kind));
  sum = ap (λ (stream : Stream). length stream.waiting) (met-land leg live kind) ∙ by kind;
}
  where
    by : (kind : ItemKind) → length (given kind (met leg live)).waiting
        ≡ was.queue + (was.since + accepted_one kind (item_answers leg s kind))
    by (Frame octets) =
        let number : ℕ = s.frames + s.commands in
        let one = offered-waits number octets (met leg live) (frame_refusal octets (met leg live)) in
        let same = ap (λ why. accepted_one (Frame octets) (refused_answer number why))
        (next-refusal leg live s octets stands more) in
        let sum = reckons.sum in
        omega (arith, one, same, sum)
    by (Add line) = let sum = reckons.sum in omega (arith, sum)
    by (Remove line) = let sum = reckons.sum in omega (arith, sum)

-- ---- a pass: what was said before it is no longer due
pub past-offers : (n t : ℕ) (items : List Item) → n < t → All (λ (item : Item). item.due ≤ n) items →
    filter (comes_at t) (offers_of items) ≡ []
past-offers n t [] low past = refl
past-offers n t (item ∷ items) low past =
    by-kind item.due item.kind (All-head (λ (item : Item). item.due ≤ n) item items past)
    (past-offers n t items low (All-tail (λ (item : Item). item.due ≤ n) item items past))
  where
    by-kind : (due : ℕ) (kind : ItemKind) → due ≤ n → filter (comes_at t) (offers_of items) ≡ [] →
        filter (comes_at t) (offer_of due kind ++ offers_of items) ≡ []
    by-kind due (Frame octets) early rest =
        let offer : DueFrame = record { due = due; frame = octets } in
        let past : due < t = omega (arith, early, low) in
        let e : comes_at t offer ≡ false = grind (arith, nat_tests, past) in
        rw e rest
    by-kind due (Add line) early rest = rest
    by-kind due (Remove line) early rest = rest

reckons-pass : (leg : Leg) (live : Live) (s : Counts) (k : ℕ) (was : Reckoned) → 1 ≤ k → Stands live s →
    Stands (live_after live (passes k)) (counts_said (walk_plan leg) s (passes k)) → Reckons leg live s was →
    Reckons leg (live_after live (passes k)) (counts_said (walk_plan leg) s (passes k))
    (reckoned_to (passes k) (answers_to leg s (passes k)) was)
reckons-pass leg live s k was some stands next reckons =
    let now : ℕ = (counts_said (walk_plan leg) s (passes k)).ticks in
    let told : List ℕ = queues_told (answers_to leg s (passes k)) in
    let queue : last_number was.queue told ≡ waiting_at leg now =
    ap (λ n. last_number n told) reckons.queue ∙ (tells-to leg s (passes k)).last in
    let none : met leg (live_after live (passes k)) ≡ stream_before (scenario_by leg) (session_of leg) (live.passed + k) =
    ap (λ offers. fold offered (stream_before (scenario_by leg) (session_of leg) (live.passed + k))
    (map (λ (offer : DueFrame). offer.frame) offers))
    (past-offers live.passed (live.passed + k) live.items (omega (arith, some)) stands.due) in
    let waits : length (met leg (live_after live (passes k))).waiting ≡ last_number was.queue told =
    ap (λ (stream : Stream). length stream.waiting) none ∙ ap (waiting_at leg) (sym next.ticks) ∙ sym queue in
    record { queue = queue; sum = omega (arith, waits) }

-- ---- one saying after another
module _ (leg : Leg) (slow fast slip : ℕ) (is : IsPlanOf slow fast slip (walk_plan leg)) where
  reckons-to : (live : Live) (s : Counts) (saying : Saying) (was : Reckoned) → CanSay leg.config.ticks live saying →
      Stands live s → Stands (live_after live saying) (counts_said (walk_plan leg) s saying) →
      HasLater (live_after live saying) leg.items → Reckons leg live s was →
      Reckons leg (live_after live saying) (counts_said (walk_plan leg) s saying)
      (reckoned_to saying (answers_to leg s saying) was)
  reckons-to live s (lands kind) was can stands next more reckons =
      reckons-land leg live s kind was stands (later-less live (lands kind) leg.items more) reckons
  reckons-to live s (cuts m) was can stands next more reckons = record { queue = reckons.queue; sum = reckons.sum }
  reckons-to live s (mends m) was can stands next more reckons = record { queue = reckons.queue; sum = reckons.sum }
  reckons-to live s (passes k) was can stands next more reckons = reckons-pass leg live s k was can.some stands next reckons

  reckons-all : (said : List Saying) (live : Live) (s : Counts) (was : Reckoned) → CanSayAll leg.config.ticks live said →
      Stands live s → Fits (walk_plan leg) s → HasLater (live_from live said) leg.items → Reckons leg live s was →
      Reckons leg (live_from live said) (counts_from (walk_plan leg) s said) (reckoned_from leg s was said)
  unfolding CanSayAll counts_from live_from reckoned_from
  reckons-all [] live s was can stands fits more reckons = reckons
  reckons-all (saying ∷ said) live s was can stands fits more reckons =
      let first = later-all said (live_after live saying) leg.items more in
      let next = stands-after leg slow fast slip is live s saying can.0 stands fits first in
      reckons-all said (live_after live saying) (counts_said (walk_plan leg) s saying)
      (reckoned_to saying (answers_to leg s saying) was) can.1 next (fits-after leg slow fast slip is s saying fits) more
      (reckons-to live s saying was can.0 stands next first reckons)

reckons-none : (config : Config) (leg : Leg) →
    Reckons leg (opened config) (begin (walk_plan leg)) (record { queue = 0; since = 0 })
unfolding stream_before
reckons-none config leg = record { queue = sym (none-wait leg); sum = refl }

-- ---- no more than 256 in all
pub sum-few : (leg : Leg) (live : Live) (s : Counts) (is : Reckoned) → Reckons leg live s is → is.queue + is.since ≤ 256
sum-few leg live s is reckons =
    let few = folded-few (come live.passed (offers_of live.items))
    (stream_before (scenario_by leg) (session_of leg) live.passed)
    (stream-few (scenario_by leg) (session_of leg) live.passed) in
    let sum = reckons.sum in
    omega (arith, few, sum)

-- ---- in a leg that agrees
module _ (config : Config) (leg : Leg) (sound : IsSound leg) (said : List Saying) (well : IsWellSaid config said)
    (agrees : Agrees config (live_of config said) leg)
  where
    reckons : Reckons leg (live_of config said) (live_counts leg said) (reckoned leg said)
    reckons =
        let plan = has-plan leg (sound-walks leg sound) in
        reckons-all leg plan.slow plan.fast plan.slip plan.is said (opened config) (begin (walk_plan leg))
        (record { queue = 0; since = 0 }) (can-leg config leg sound said agrees.network well) (stands-begun config leg)
        (begin-fits plan.slow plan.fast plan.slip (walk_plan leg) plan.is) agrees.items (reckons-none config leg)

    pub reckoned-few : (reckoned leg said).queue + (reckoned leg said).since ≤ 256
    reckoned-few = sum-few leg (live_of config said) (live_counts leg said) (reckoned leg said) reckons

-- ---- a frame that is said next
pub refusal-room : (octets : List ℕ) (stream : Stream) → 64 ≤ length octets → length octets ≤ 9600 →
    length stream.waiting < 256 → frame_refusal octets stream ≡ None
refusal-room octets stream least most room =
    let short : nat_lt (length octets) shortest_frame ≡ false = grind (arith, nat_tests, least) in
    let long : nat_lt longest_frame (length octets) ≡ false = grind (arith, nat_tests, most) in
    let full : nat_le most_waiting (length stream.waiting) ≡ false = grind (arith, nat_tests, room) in
    rw (short, long, full) refl

pub refusal-full : (octets : List ℕ) (stream : Stream) → 64 ≤ length octets → length octets ≤ 9600 →
    length stream.waiting ≡ 256 → frame_refusal octets stream ≡ Some (QueueFull 256)
refusal-full octets stream least most is =
    let short : nat_lt (length octets) shortest_frame ≡ false = grind (arith, nat_tests, least) in
    let long : nat_lt longest_frame (length octets) ≡ false = grind (arith, nat_tests, most) in
    rw (short, long, is) refl

module _ (config : Config) (said : List Saying) (octets : List ℕ) (leg : Leg) (sound : IsSound leg)
    (well : IsWellSaid config (said ++ lands (Frame octets) ∷ []))
    (agrees : Agrees config (live_of config (said ++ lands (Frame octets) ∷ [])) leg)
  where
    one-less : IsWellSaid config said
    one-less = well-front config said (lands (Frame octets) ∷ []) well

    agrees-less : Agrees config (live_of config said) leg
    agrees-less = agrees-before config said (lands (Frame octets) ∷ []) leg well.each agrees

    -- by why it is refused
    next-answer : (why : Option AcceptFault) → frame_refusal octets (met leg (live_of config said)) ≡ why →
        answers_from leg (live_counts leg said) (lands (Frame octets) ∷ [])
        ≡ refused_answer (length (live_of config said).items) (option_map frame_fault why)
    unfolding answers_from
    next-answer why is =
        let s : Counts = live_counts leg said in
        append-nil (item_answers leg s (Frame octets))
        ∙ ap₂ refused_answer (agrees-number config leg sound said one-less agrees-less)
        (next-refusal leg (live_of config said) s octets (agrees-stands config leg sound said one-less agrees-less)
        agrees-less.items ∙ ap (option_map frame_fault) is)

    pub said-room : 64 ≤ length octets → length octets ≤ 9600 →
        (reckoned leg said).queue + (reckoned leg said).since < 256 →
        answers_from leg (live_counts leg said) (lands (Frame octets) ∷ []) ≡ []
    said-room least most room =
        let sum = (reckons config leg sound said one-less agrees-less).sum in
        next-answer None (refusal-room octets (met leg (live_of config said)) least most (omega (arith, room, sum)))

    pub said-full : 64 ≤ length octets → length octets ≤ 9600 →
        (reckoned leg said).queue + (reckoned leg said).since ≡ 256 →
        answers_from leg (live_counts leg said) (lands (Frame octets) ∷ [])
        ≡ refused_item (length (live_of config said).items) (frame_fault (QueueFull 256)) ∷ []
    said-full least most full =
        let sum = (reckons config leg sound said one-less agrees-less).sum in
        next-answer (Some (QueueFull 256)) (refusal-full octets (met leg (live_of config said)) least most (sum ∙ full))

-- ---- a walk that has come to the end of a pass
module _ (config : Config) (leg : Leg) (sound : IsSound leg) (said : List Saying) (k : ℕ)
    (well : IsWellSaid config (said ++ passes k ∷ [])) (agrees : Agrees config (live_of config (said ++ passes k ∷ [])) leg)
  where
    abbrev passed : Counts
    passed = live_counts leg (said ++ passes k ∷ [])

    live-passed : live_of config (said ++ passes k ∷ []) ≡ live_after (live_of config said) (passes k)
    unfolding live_from
    live-passed = live-more (opened config) said (passes k ∷ [])

    some-pass : 1 ≤ k
    unfolding CanSayAll
    some-pass = (can-back config.ticks said (passes k ∷ []) (opened config) well.each).0.some

    -- the frames that have landed are those that were said
    offers-passed : take passed.frames (offers_of leg.items) ≡ offers_of (live_of config said).items
    offers-passed =
        let live : Live = live_of config said in
        let offer : Item → List DueFrame = λ (item : Item). offer_of item.due item.kind in
        let stands = agrees-stands config leg sound (said ++ passes k ∷ []) well agrees in
        let size : passed.frames ≡ length (offers_of live.items) =
        stands.frames ∙ ap frames_in_live live-passed ∙ ap length (frame-dues live.items)
        ∙ length-map (offers_of live.items) (λ (offer : DueFrame). offer.due) in
        ap₂ (λ n items. take n (offers_of items)) size
        (agrees.items.are ∙ ap (λ (l : Live). l.items ++ agrees.items.later) live-passed)
        ∙ ap (take (length (offers_of live.items))) (flat_map-append offer live.items agrees.items.later)
        ∙ take-append_seam (offers_of live.items) (offers_of agrees.items.later)

    pub waits-passed :
        length (stream_met (scenario_by leg) (session_of leg) passed.ticks (take passed.frames (offers_of leg.items))).waiting
        ≡ waiting_at leg passed.ticks
    waits-passed =
        let live : Live = live_of config said in
        let t : ℕ = live.passed + k in
        let stands = agrees-stands config leg sound said (well-front config said (passes k ∷ []) well)
        (agrees-before config said (passes k ∷ []) leg well.each agrees) in
        let ticks : passed.ticks ≡ t =
        (agrees-stands config leg sound (said ++ passes k ∷ []) well agrees).ticks
        ∙ ap (λ (l : Live). l.passed) live-passed in
        let some = some-pass in
        ap₂ (λ n offers. length (stream_met (scenario_by leg) (session_of leg) n offers).waiting) ticks offers-passed
        ∙ ap (λ offers. length (fold offered (stream_before (scenario_by leg) (session_of leg) t)
        (map (λ (offer : DueFrame). offer.frame) offers)).waiting)
        (past-offers live.passed t live.items (omega (arith, some)) stands.due)
        ∙ ap (waiting_at leg) (sym ticks)
