-- A frame lands only once as many ticks are made as it is due after, so no more ticks are told than those and one.
use Rattle.std.proofs.Common.{◌≡◌, ℕ, zero, suc, ◌+◌, ◌-◌, ◌<◌, ◌≤◌, max, nat_lt, true, inl, inr, List, [], ◌∷◌, ◌++◌}
use Rattle.std.proofs.Common.{map, take, slice_get, All, Option, Some, None, refl, sym, ◌∙◌, ap, subst, arith, lt-ltb}
use Rattle.std.proofs.lemmas.Bool.{cases_Bool, cases_lt}
use Rattle.std.proofs.lemmas.Option.{same_Some}
use Rattle.std.proofs.lemmas.List.Elements.{All-nil, All-cons, All-head, All-tail}
use Rattle.law_model.specs.Common.{Leg, Counts, IsWithin, DueFrame, offer_of, offers_of, frame_dues, Plan, step, run}
use Rattle.law_model.specs.Common.{begin}
use Rattle.law_model.specs.declared.item_refusals.Refusal.{Refusal}
use Rattle.law_model.specs.declared.script_types.Item.{Item}
use Rattle.law_model.specs.declared.script_types.ItemKind.{ItemKind}
use Rattle.law_model.specs.declared.script_types.ItemKind.TheVariants.{Frame, Add, Remove}
use Rattle.law_model.specs.declared.walk_events.Event.{Event}
use Rattle.law_progress.proofs.EventOutcomeLaws.{step-gives}
use Rattle.law_walk.specs.Common.{walk_plan, IsWalked, Numbered, is_client, with_if, landed_from, refusal_at}
use Rattle.law_walk.proofs.AcceptedFrameAndDrainedWalkLaws.{offers_by}
use Rattle.law_walk.proofs.LandedItemRefusalAndTotalLaws.{frame-dues}
use Rattle.fate_engine.specs.Common.{refused, accepted, Ended, ended_by, ended_then, ended_on, ended_of}
use Rattle.fate_engine.specs.declared.fate_law.Fate.{Fate}
use Rattle.fate_walks.specs.walk_fates.MadeWalk.{fates_in}
use Rattle.fate_walks.proofs.FatesAndSeenRowsLaws.{with-skips, landed-client, landed-other}
use Rattle.fate_service.specs.FrameColumns.{offered_of}
use Rattle.fate_service.specs.Stretches.{told_on}
use Rattle.fate_service.specs.ServiceText.{told_of}
use Rattle.fate_service.proofs.LandedFrameTallyLaws.{ticks-told}
use Rattle.fate_service.proofs.QueueOfWaitingFramesLaws.{client-is, offers-none}

-- ---- event by event
module _ (plan : Plan) where
  abbrev InTime : Counts → Type 0
  InTime s = (k due : ℕ) → k < s.frames → slice_get (frame_dues plan.items) k ≡ Some due → due ≤ s.ticks

  steps : (s : Counts) (event : Event) → InTime s → InTime (step plan s event).counts
  steps s event here = step-gives (λ next. InTime next.counts) plan s event (record {
    stalls = λ cause. here;
    accepts = λ due is now k other low there. elim (cases_lt k s.frames) [
      | inl before ↦ here k other before there
      | inr last ↦
          let at : s.frames ≡ k = omega (arith, low, last) in
          let same = same_Some due other (sym is ∙ ap (slice_get (frame_dues plan.items)) at ∙ there) in
          omega (arith, same, now)
    ];
    commands = λ due is now. here;
    ticks = λ none k due low there. (let now = here k due low there in omega (arith, now));
    carries = λ lines. here;
    backs = here;
    waits = λ line. here;
    takes = here;
  })

  runs : (s : Counts) (events : List Event) → InTime s → InTime (run plan s events)
  unfolding run
  runs s [] here = here
  runs s (event ∷ events) here = runs (step plan s event).counts events (steps s event here)

walked-in : (leg : Leg) (s : Counts) → IsWalked leg s → InTime (walk_plan leg) s
walked-in leg s walked =
    subst (InTime (walk_plan leg)) (sym walked.1)
    (runs (walk_plan leg) (begin (walk_plan leg)) walked.0 (λ k due low there. absurd (omega (arith, low))))

-- ---- the offers that have landed
abbrev HasDue : ℕ → DueFrame → Type 0
HasDue n offer = offer.due ≤ n

-- of the first ones of a list each holds that is met at its number
first-each : (n a : ℕ) (offers : List DueFrame) →
    ((k due : ℕ) → k < a → slice_get (map (λ (offer : DueFrame). offer.due) offers) k ≡ Some due → due ≤ n) →
    All (HasDue n) (take a offers)
first-each n zero offers each = All-nil (HasDue n)
first-each n (suc a) [] each = All-nil (HasDue n)
first-each n (suc a) (offer ∷ offers) each =
    All-cons (HasDue n) offer (take a offers) (each 0 offer.due (omega arith) refl)
    (first-each n a offers (λ k due low there. each (suc k) due (omega (arith, low)) there))

offers-in : (leg : Leg) (s : Counts) → IsWalked leg s → All (HasDue s.ticks) (take s.frames (offers_of leg.items))
offers-in leg s walked =
    first-each s.ticks s.frames (offers_of leg.items)
    (λ k due low there. walked-in leg s walked k due low
    (ap (λ l. slice_get l k) (frame-dues leg.items) ∙ there))

-- ---- the client's frames among items
abbrev EndsDue : ℕ → Ended → Type 0
EndsDue n ended = ended.due ≤ n

module _ (leg : Leg) (fate : ℕ → Fate) (n : ℕ) where
  then-due : (item : Numbered) (why : Option Refusal) (kind : ItemKind) (i : ℕ) (others : ℕ → List Ended) →
      item.item.due ≤ n → ((m : ℕ) → All (EndsDue n) (others m)) →
      All (EndsDue n) (ended_then fate item why kind i others)
  then-due item None (Frame octets) i others own rest =
      All-cons (EndsDue n) (ended_by item octets (accepted (fate i))) (others (suc i)) own (rest (suc i))
  then-due item (Some why) (Frame octets) i others own rest =
      All-cons (EndsDue n) (ended_by item octets (refused why)) (others i) own (rest i)
  then-due item None (Add line) i others own rest = rest i
  then-due item (Some why) (Add line) i others own rest = rest i
  then-due item None (Remove line) i others own rest = rest i
  then-due item (Some why) (Remove line) i others own rest = rest i

  abbrev AreDue : List Item → Type 0
  AreDue items = (a b k i : ℕ) → All (HasDue n) (take a (offers_of items)) →
      All (EndsDue n) (ended_on leg fate (landed_from a b k items) i)

  landed-due : (items : List Item) (a b k i : ℕ) → All (HasDue n) (take a (offers_of items)) →
      All (EndsDue n) (ended_on leg fate (landed_from a b k items) i)
  unfolding landed_from ended_on
  landed-due [] a b k i low = All-nil (EndsDue n)
  landed-due (item ∷ items) a b k i low =
      let own : Numbered = record { number = k; item = item } in
      elim (cases_Bool (is_client item.kind)) [
        | inl own_kind ↦ clients a (landed-due items) low own_kind
        | inr other ↦
            subst (λ l. All (EndsDue n) (ended_on leg fate l i)) (sym (landed-other leg fate a b k item items other))
            (subst (All (EndsDue n))
            (sym (with-skips leg fate (nat_lt 0 b) own (landed_from a (b - 1) (suc k) items) i other))
            (landed-due items a (b - 1) (suc k) i
            (subst (λ l. All (HasDue n) (take a (l ++ offers_of items))) (offers-none item other) low)))
      ]
    where
      clients : (a : ℕ) → AreDue items → All (HasDue n) (take a (offers_by item ++ offers_of items)) →
          is_client item.kind ≡ true → All (EndsDue n) (ended_on leg fate (landed_from a b k (item ∷ items)) i)
      clients zero rest low own_kind =
          subst (λ l. All (EndsDue n) (ended_on leg fate l i)) (sym (landed-client leg fate 0 b k item items own_kind))
          (rest (0 - 1) b (suc k) i (All-nil (HasDue n)))
      clients (suc a) rest low own_kind =
          let (octets, is) = client-is item.kind own_kind in
          let offer : DueFrame = record { due = item.due; frame = octets } in
          let all : All (HasDue n) (offer ∷ take a (offers_of items)) =
          subst (λ l. All (HasDue n) (take (suc a) (l ++ offers_of items))) (ap (offer_of item.due) is) low in
          let own : Numbered = record { number = k; item = item } in
          let some : nat_lt 0 (suc a) ≡ true = lt-ltb 0 (suc a) (omega arith) in
          let less : suc a - 1 ≡ a = omega arith in
          let same : landed_from (suc a) b k (item ∷ items) ≡ own ∷ landed_from a b (suc k) items =
          landed-client leg fate (suc a) b k item items own_kind
          ∙ ap (λ there. with_if there own (landed_from (suc a - 1) b (suc k) items)) some
          ∙ ap (λ c. own ∷ landed_from c b (suc k) items) less in
          subst (λ l. All (EndsDue n) (ended_on leg fate l i)) (sym same)
          (then-due own (refusal_at leg own) item.kind i (ended_on leg fate (landed_from a b (suc k) items))
          (All-head (HasDue n) offer (take a (offers_of items)) all)
          (λ m. rest a b (suc k) m (All-tail (HasDue n) offer (take a (offers_of items)) all)))

-- ---- the ticks that are told
told-within : (n told : ℕ) (all : List Ended) → told ≤ n + 1 → All (EndsDue n) all →
    told_on told (offered_of all) ≤ n + 1
unfolding told_on
told-within n told [] low each = low
told-within n told (ended ∷ all) low each =
    told-within n (max told (ended.due + 1)) all
    (let own = All-head (EndsDue n) ended all each in omega (arith, low, own)) (All-tail (EndsDue n) ended all each)

pub most-told : (leg : Leg) (s : Counts) → IsWalked leg s → IsWithin s.ticks (s.ticks + 1) (told_of leg s)
most-told leg s walked = (
  ticks-told s.ticks (offered_of (ended_of leg s)),
  told-within s.ticks s.ticks (ended_of leg s) (omega arith)
      (landed-due leg (fates_in leg s.rows) s.ticks leg.items s.frames s.commands 0 0 (offers-in leg s walked)),
)
