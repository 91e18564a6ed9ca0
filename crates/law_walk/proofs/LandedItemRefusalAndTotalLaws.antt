-- Which items have landed, what one more adds to the refusals and totals, and what the source was told by then.
use Rattle.std.proofs.Common.{◌≡◌, ℕ, zero, suc, ◌+◌, ◌*◌, ◌<◌, ◌≤◌, ◌&&◌, nat_le, nat_lt, Bool, false, inl, inr, List}
use Rattle.std.proofs.Common.{[], ◌∷◌, ◌++◌, map, filter, take, length, slice_get, Option, Some, None, option_map}
use Rattle.std.proofs.Common.{refl, sym, ◌∙◌, ap, subst, arith, append_assoc, leb-false, take_at, flat_map, ◌-◌, not}
use Rattle.std.proofs.Common.{true, if◌then◌else◌, All, is_none, length-append, ◌/◌, fold}
use Rattle.std.proofs.lemmas.Bool.{lt-leb, cases_Bool}
use Rattle.std.proofs.lemmas.Option.{slice_get-map}
use Rattle.check_nibbles.proofs.CellsInStepLaws.{slice_get-append_seam}
use Rattle.law_model.specs.Common.{Leg, DueCommand, DueFrame, order_of, offer_of, orders_of, offers_of, scenario_by}
use Rattle.law_model.specs.Common.{lands_at, comes_at, orders_at, frames_at, Due, frame_due, command_due, dues_of}
use Rattle.law_model.specs.Common.{frame_dues, command_dues, Plan, Counts, held, step, run, begin}
use Rattle.law_model.specs.Common.{Scenario, steps_in, packets, Told, Source, asked_all, refusal, after, source_at}
use Rattle.law_model.specs.Common.{Stream, frame_refusal, offered, stream_before, session_cells, frame_of, used_in}
use Rattle.law_model.specs.declared.script_types.Item.{Item}
use Rattle.law_model.specs.declared.walk_events.Event.{Event}
use Rattle.law_loss.proofs.ClientFrameExtentLaws.{and_false, filter-skip}
use Rattle.law_loss.proofs.ItemDueTicksLaws.{order_dues, offer_dues}
use Rattle.law_progress.proofs.EventOutcomeLaws.{step-gives}
use Rattle.law_walk.specs.Common.{walk_plan, IsWalked, Numbered, landed_scenario, IsOfferAt, IsOrderAt, delivered_of}
use Rattle.law_walk.specs.Common.{is_client, with_if, landed_from, landed_items, refusal_at, refused_by}
use Rattle.law_walk.specs.Common.{refusals_among, refusals_of, IsPlaced, is_accepted_frame, is_accepted_command}
use Rattle.law_walk.specs.Common.{totals_of, with_frame_told, with_command_told, CanWalk, told_before, stream_met}
use Rattle.law_walk.specs.Common.{source_met, kind_refusal}
use Rattle.std.proofs.lemmas.List.Concat.{flat_map-append}
use Rattle.std.proofs.lemmas.List.Elements.{All-cons, All-append, filter-append}
use Rattle.law_model.specs.declared.script_types.ItemKind.{ItemKind}
use Rattle.law_model.specs.declared.item_refusals.Refusal.{Refusal}
use Rattle.law_model.specs.declared.session_totals.Totals.{Totals}
use Rattle.law_model.specs.declared.script_types.ItemKind.TheVariants.{Frame, Add, Remove}
use Rattle.law_model.specs.declared.lcas_states.Command.TheVariants.{Add as add, Remove as remove}
use Rattle.law_model.specs.declared.item_refusals.Refusal.TheVariants.{Frame as frame_fault, Command as command_fault}
use Rattle.law_session.proofs.ReturnCellAndLineWordLaws.{Agree-first}
use Rattle.law_terminal.proofs.SessionCourseLaws.{session-agree}
use Rattle.law_walk.proofs.WalkPlanAndPoppedCellLaws.{fits}
use Rattle.law_session.proofs.ClientStreamAndReplayLaws.{Alike, Alike-sooner, alike-after, alike-stream, alike-frame}

-- ---- Which items have landed after any list of events.
-- ---- what hasn't landed isn't due before the ticks that were made
pub record Ahead (items : List Due) (ticks frames commands : ℕ) : Type 0 where
  pub of_frames : (k due : ℕ) → frames ≤ k → slice_get (frame_dues items) k ≡ Some due → ticks ≤ due
  pub of_commands : (k due : ℕ) → commands ≤ k → slice_get (command_dues items) k ≡ Some due → ticks ≤ due

abbrev IsAhead : Plan → Counts → Type 0
IsAhead plan s = Ahead plan.items s.ticks s.frames s.commands

held-frames : (ticks a b i : ℕ) (items : List Due) → held ticks a b i items ≡ None → (k due : ℕ) → a ≤ k →
    slice_get (frame_dues items) k ≡ Some due → ticks < due
unfolding held frame_dues
held-frames ticks a b i [] none k due low here = absurd cc
held-frames ticks zero b i (frame_due first ∷ items) none zero due low here =
    elim (cases_Bool (nat_le first ticks)) [
      | inl e ↦ absurd (let f : Some i ≡ None = rw e at none in cc)
      | inr e ↦ let late = leb-false first ticks e in let same : first ≡ due = cc in omega arith
    ]
held-frames ticks zero b i (frame_due first ∷ items) none (suc k) due low here =
    elim (cases_Bool (nat_le first ticks)) [
      | inl e ↦ absurd (let f : Some i ≡ None = rw e at none in cc)
      | inr e ↦ held-frames ticks zero b (suc i) items (rw e at none) k due (omega arith) here
    ]
held-frames ticks (suc a) b i (frame_due first ∷ items) none zero due low here = absurd (omega arith)
held-frames ticks (suc a) b i (frame_due first ∷ items) none (suc k) due low here =
    held-frames ticks a b (suc i) items none k due (omega arith) here
held-frames ticks a zero i (command_due first ∷ items) none k due low here =
    elim (cases_Bool (nat_le first ticks)) [
      | inl e ↦ absurd (let f : Some i ≡ None = rw e at none in cc)
      | inr e ↦ held-frames ticks a zero (suc i) items (rw e at none) k due low here
    ]
held-frames ticks a (suc b) i (command_due first ∷ items) none k due low here =
    held-frames ticks a b (suc i) items none k due low here

held-commands : (ticks a b i : ℕ) (items : List Due) → held ticks a b i items ≡ None → (k due : ℕ) → b ≤ k →
    slice_get (command_dues items) k ≡ Some due → ticks < due
unfolding held command_dues
held-commands ticks a b i [] none k due low here = absurd cc
held-commands ticks zero b i (frame_due first ∷ items) none k due low here =
    elim (cases_Bool (nat_le first ticks)) [
      | inl e ↦ absurd (let f : Some i ≡ None = rw e at none in cc)
      | inr e ↦ held-commands ticks zero b (suc i) items (rw e at none) k due low here
    ]
held-commands ticks (suc a) b i (frame_due first ∷ items) none k due low here =
    held-commands ticks a b (suc i) items none k due low here
held-commands ticks a zero i (command_due first ∷ items) none zero due low here =
    elim (cases_Bool (nat_le first ticks)) [
      | inl e ↦ absurd (let f : Some i ≡ None = rw e at none in cc)
      | inr e ↦ let late = leb-false first ticks e in let same : first ≡ due = cc in omega arith
    ]
held-commands ticks a zero i (command_due first ∷ items) none (suc k) due low here =
    elim (cases_Bool (nat_le first ticks)) [
      | inl e ↦ absurd (let f : Some i ≡ None = rw e at none in cc)
      | inr e ↦ held-commands ticks a zero (suc i) items (rw e at none) k due (omega arith) here
    ]
held-commands ticks a (suc b) i (command_due first ∷ items) none zero due low here = absurd (omega arith)
held-commands ticks a (suc b) i (command_due first ∷ items) none (suc k) due low here =
    held-commands ticks a b (suc i) items none k due (omega arith) here

-- so a tick may go on
pub ahead-next : (items : List Due) (ticks frames commands : ℕ) → held ticks frames commands 0 items ≡ None →
    Ahead items (ticks + 1) frames commands
ahead-next items ticks frames commands none = record {
  of_frames = λ k due low there. let late = held-frames ticks frames commands 0 items none k due low there in
      omega arith;
  of_commands = λ k due low there. let late = held-commands ticks frames commands 0 items none k due low there in
      omega arith;
}

-- ---- event by event
ahead-step : (plan : Plan) (s : Counts) (event : Event) → IsAhead plan s → IsAhead plan (step plan s event).counts
ahead-step plan s event here = step-gives (λ next. IsAhead plan next.counts) plan s event (record {
  stalls = λ cause. here;
  accepts = λ due there now. record {
    of_frames = λ k due low there. here.of_frames k due (omega arith) there;
    of_commands = here.of_commands;
  };
  commands = λ due there now. record {
    of_frames = here.of_frames;
    of_commands = λ k due low there. here.of_commands k due (omega arith) there;
  };
  ticks = ahead-next plan.items s.ticks s.frames s.commands;
  carries = λ lines. here;
  backs = here;
  waits = λ line. here;
  takes = here;
})

ahead-run : (plan : Plan) (s : Counts) (events : List Event) → IsAhead plan s → IsAhead plan (run plan s events)
unfolding run
ahead-run plan s [] here = here
ahead-run plan s (event ∷ events) here = ahead-run plan (step plan s event).counts events (ahead-step plan s event here)

pub walked-ahead : (leg : Leg) (s : Counts) → IsWalked leg s → IsAhead (walk_plan leg) s
walked-ahead leg s walked =
    subst (IsAhead (walk_plan leg)) (sym walked.1)
    (ahead-run (walk_plan leg) (begin (walk_plan leg)) walked.0 (record {
      of_frames = λ k due low there. omega arith;
      of_commands = λ k due low there. omega arith;
    }))

-- ---- no more land than there are
if-few : (there : Bool) (item : Numbered) (items : List Numbered) → length (with_if there item items) ≤ suc (length items)
if-few true item items = omega arith
if-few false item items = omega arith

pub landed-few : (a b i : ℕ) (items : List Item) → length (landed_from a b i items) ≤ length items
unfolding landed_from
landed-few a b i [] = omega arith
landed-few a b i (item ∷ items) =
    elim (cases_Bool (is_client item.kind)) [
      | inl client ↦ rw client
          (let own = if-few (nat_lt 0 a) (record { number = i; item = item }) (landed_from (a - 1) b (suc i) items) in
          let rest = landed-few (a - 1) b (suc i) items in omega (arith, own, rest))
      | inr other ↦ rw other
          (let own = if-few (nat_lt 0 b) (record { number = i; item = item }) (landed_from a (b - 1) (suc i) items) in
          let rest = landed-few a (b - 1) (suc i) items in omega (arith, own, rest))
    ]

-- ---- items as offers and orders
pub frame-dues : (items : List Item) →
    frame_dues (dues_of items) ≡ map (λ (offer : DueFrame). offer.due) (offers_of items)
frame-dues items = sym (offer_dues items)

pub command-dues : (items : List Item) →
    command_dues (dues_of items) ≡ map (λ (order : DueCommand). order.due) (orders_of items)
command-dues items = sym (order_dues items)

pub frame-waits : (leg : Leg) (s : Counts) (k : ℕ) (offer : DueFrame) → IsWalked leg s → s.frames ≤ k →
    slice_get (offers_of leg.items) k ≡ Some offer → s.ticks ≤ offer.due
frame-waits leg s k offer walked low there =
    (walked-ahead leg s walked).of_frames k offer.due low
    (ap (λ l. slice_get l k) (frame-dues leg.items)
    ∙ slice_get-map (λ (offer : DueFrame). offer.due) (offers_of leg.items) k
    ∙ ap (option_map (λ (offer : DueFrame). offer.due)) there)

pub command-waits : (leg : Leg) (s : Counts) (k : ℕ) (order : DueCommand) → IsWalked leg s → s.commands ≤ k →
    slice_get (orders_of leg.items) k ≡ Some order → s.ticks ≤ order.due
command-waits leg s k order walked low there =
    (walked-ahead leg s walked).of_commands k order.due low
    (ap (λ l. slice_get l k) (command-dues leg.items)
    ∙ slice_get-map (λ (order : DueCommand). order.due) (orders_of leg.items) k
    ∙ ap (option_map (λ (order : DueCommand). order.due)) there)

-- ---- the session of what has landed
pub filter-first : {X : Type 0} (p : X → Bool) (a : ℕ) (xs : List X) →
    ((k : ℕ) (x : X) → a ≤ k → slice_get xs k ≡ Some x → p x ≡ false) →
    filter p (take a xs) ≡ filter p xs
filter-first p zero [] none = refl
filter-first p (suc a) [] none = refl
filter-first p zero (x ∷ xs) none =
    filter-first p zero xs (λ k y low there. none (suc k) y (omega arith) there)
    ∙ sym (filter-skip p x xs (none 0 x (omega arith) refl))
filter-first p (suc a) (x ∷ xs) none =
    let rest = filter-first p a xs (λ k y low there. none (suc k) y (omega arith) there) in
    elim (cases_Bool (p x)) [ inl e ↦ rw e (ap (λ l. x ∷ l) rest) | inr e ↦ rw e rest ]

pub frames-landed : (leg : Leg) (s : Counts) (t : ℕ) → IsWalked leg s → t < s.ticks →
    frames_at (landed_scenario leg s) t ≡ frames_at (scenario_by leg) t
frames-landed leg s t walked low =
    ap (map (λ (offer : DueFrame). offer.frame))
    (filter-first (comes_at t) s.frames (offers_of leg.items) (λ k offer waits there.
    let late = frame-waits leg s k offer walked waits there in
    ap (λ b. b && nat_le t offer.due) (lt-leb offer.due t (omega arith))))

pub orders-landed : (leg : Leg) (s : Counts) (j : ℕ) → IsWalked leg s → 16 * j + 8 < s.ticks →
    orders_at (landed_scenario leg s) j ≡ orders_at (scenario_by leg) j
orders-landed leg s j walked low =
    ap (map (λ (order : DueCommand). order.command))
    (filter-first (lands_at j) s.commands (orders_of leg.items) (λ k order waits there.
    let late = command-waits leg s k order walked waits there in
    ap (λ b. nat_lt (16 * j) (order.due + 8) && b) (lt-leb order.due (16 * j + 8) (omega arith))
    ∙ and_false (nat_lt (16 * j) (order.due + 8))))

-- ---- the next offer, and the next order
flat-at : {X Y : Type 0} (f : X → List Y) (xs : List X) (i : ℕ) (x : X) (y : Y) → slice_get xs i ≡ Some x →
    f x ≡ y ∷ [] →
    (rest : List Y) × (flat_map f xs ≡ flat_map f (take i xs) ++ y ∷ rest)
flat-at f [] i x y there is = absurd cc
flat-at f (z ∷ xs) zero x y there is =
    let same : z ≡ x = cc in (flat_map f xs, ap (λ l. l ++ flat_map f xs) (ap f same ∙ is))
flat-at f (z ∷ xs) (suc i) x y there is =
    let (rest, e) = flat-at f xs i x y there is in
    (rest, ap (λ l. f z ++ l) e ∙ sym (append_assoc (f z) (flat_map f (take i xs)) (y ∷ rest)))

pub offer-at : (items : List Item) (a : ℕ) (item : Numbered) (offer : DueFrame) → IsOfferAt items a item offer →
    (slice_get (offers_of items) a ≡ Some offer) × (offers_of (take item.number items) ≡ take a (offers_of items))
offer-at items a item offer at =
    let front : List DueFrame = offers_of (take item.number items) in
    let (rest, e) = flat-at (λ (item : Item). offer_of item.due item.kind) items item.number item.item offer at.there
    at.is in
    let size = at.before in (
      ap (λ n. slice_get (offers_of items) n) (sym size) ∙ ap (λ l. slice_get l (length front)) e
          ∙ slice_get-append_seam front offer rest,
      sym (ap (take a) e ∙ take_at front (offer ∷ rest) a size),
    )

pub order-at : (items : List Item) (b : ℕ) (item : Numbered) (order : DueCommand) → IsOrderAt items b item order →
    (slice_get (orders_of items) b ≡ Some order) × (orders_of (take item.number items) ≡ take b (orders_of items))
order-at items b item order at =
    let front : List DueCommand = orders_of (take item.number items) in
    let (rest, e) = flat-at (λ (item : Item). order_of item.due item.kind) items item.number item.item order at.there
    at.is in
    let size = at.before in (
      ap (λ n. slice_get (orders_of items) n) (sym size) ∙ ap (λ l. slice_get l (length front)) e
          ∙ slice_get-append_seam front order rest,
      sym (ap (take b) e ∙ take_at front (order ∷ rest) b size),
    )

-- ---- What an item that lands adds to the refusals and the totals.
-- ---- an item among those that have landed
pub record IsInserted (item : Numbered) (was now : List Numbered) : Type 0 where
  pub front : List Numbered
  pub back : List Numbered
  pub was_so : was ≡ front ++ back
  pub is_so : now ≡ front ++ item ∷ back
  pub before : All (λ (other : Numbered). other.number < item.number) front
  pub after : All (λ (other : Numbered). item.number < other.number) back

client-offer : (due : ℕ) (kind : ItemKind) (offer : DueFrame) → offer_of due kind ≡ offer ∷ [] → is_client kind ≡ true
client-offer due (Frame octets) offer is = refl
client-offer due (Add line) offer is = absurd cc
client-offer due (Remove line) offer is = absurd cc

operator-order : (due : ℕ) (kind : ItemKind) (order : DueCommand) → order_of due kind ≡ order ∷ [] →
    is_client kind ≡ false
operator-order due (Frame octets) order is = absurd cc
operator-order due (Add line) order is = refl
operator-order due (Remove line) order is = refl

-- how many offers and orders an item is
pub offers-size : (due : ℕ) (kind : ItemKind) → length (offer_of due kind) ≡ (if is_client kind then 1 else 0)
offers-size due (Frame octets) = refl
offers-size due (Add line) = refl
offers-size due (Remove line) = refl

pub orders-size : (due : ℕ) (kind : ItemKind) → length (order_of due kind) ≡ (if is_client kind then 0 else 1)
orders-size due (Frame octets) = refl
orders-size due (Add line) = refl
orders-size due (Remove line) = refl

-- those numbered from i have no number below
above : (a b i : ℕ) (items : List Item) → All (λ (other : Numbered). i ≤ other.number) (landed_from a b i items)
unfolding landed_from
above a b i [] = λ k d inside. absurd (omega arith)
above a b i (item ∷ items) =
    elim (cases_Bool (is_client item.kind)) [
      | inl e ↦ rw e (above-if (nat_lt 0 a) i (record { number = i; item = item }) (landed_from (a - 1) b (suc i) items)
          (omega arith)
          (λ k d inside. let more = above (a - 1) b (suc i) items k d inside in omega arith))
      | inr e ↦ rw e (above-if (nat_lt 0 b) i (record { number = i; item = item }) (landed_from a (b - 1) (suc i) items)
          (omega arith)
          (λ k d inside. let more = above a (b - 1) (suc i) items k d inside in omega arith))
    ]
  where
    above-if : (there : Bool) (i : ℕ) (item : Numbered) (items : List Numbered) → i ≤ item.number →
        All (λ (other : Numbered). i ≤ other.number) items →
        All (λ (other : Numbered). i ≤ other.number) (with_if there item items)
    above-if true i item items here rest = All-cons (λ (other : Numbered). i ≤ other.number) item items here rest
    above-if false i item items here rest = rest

put-if : (there : Bool) (first item : Numbered) (was now : List Numbered) → first.number < item.number →
    IsInserted item was now → IsInserted item (with_if there first was) (with_if there first now)
put-if true first item was now low put = record {
  front = first ∷ put.front;
  back = put.back;
  was_so = ap (λ l. first ∷ l) put.was_so;
  is_so = ap (λ l. first ∷ l) put.is_so;
  before = All-cons (λ (other : Numbered). other.number < item.number) first put.front low put.before;
  after = put.after;
}
put-if false first item was now low put = put

put-here : (item : Numbered) (items : List Numbered) →
    All (λ (other : Numbered). suc item.number ≤ other.number) items → IsInserted item items (item ∷ items)
put-here item items high = record {
  front = [];
  back = items;
  was_so = refl;
  is_so = refl;
  before = λ k d inside. absurd (omega arith);
  after = λ k d inside. let more = high k d inside in omega arith;
}

offer-put : (items : List Item) (a b i k : ℕ) (item : Item) (offer : DueFrame) → slice_get items k ≡ Some item →
    offer_of item.due item.kind ≡ offer ∷ [] →
    length (offers_of (take k items)) ≡ a →
    IsInserted (record { number = i + k; item = item }) (landed_from a b i items) (landed_from (suc a) b i items)
unfolding landed_from
offer-put [] a b i k item offer there is before = absurd cc
offer-put (first ∷ items) a b i zero item offer there is before =
    let same : first ≡ item = cc in
    let client : is_client first.kind ≡ true =
    subst (λ (item : Item). is_client item.kind ≡ true) (sym same) (client-offer item.due item.kind offer is) in
    let none : a ≡ 0 = sym before in
    let here : i + 0 ≡ i = omega arith in
    rw (client, none, here, sym same)
    (put-here (record { number = i; item = first }) (landed_from 0 b (suc i) items) (above 0 b (suc i) items))
offer-put (first ∷ items) a b i (suc k) item offer there is before =
    let next : i + suc k ≡ suc i + k = omega arith in
    let one = offers-size first.due first.kind in
    let sum = length-append (offer_of first.due first.kind) (offers_of (take k items)) in
    elim (cases_Bool (is_client first.kind)) [
      | inl e ↦
          let size : length (offer_of first.due first.kind) ≡ 1 = one ∙ ap (λ c. if c then 1 else 0) e in
          let less : length (offers_of (take k items)) ≡ a - 1 = omega arith in
          let some : nat_lt 0 a ≡ true = grind (arith, (let h : 0 < a = omega arith in h)) in
          let back : suc (a - 1) ≡ a = omega arith in
          let full : nat_lt 0 (suc a) ≡ true = grind (arith, (let h : 0 < suc a = omega arith in h)) in
          let less_one : suc a - 1 ≡ a = omega arith in
          rw (e, some, next, full, less_one)
          (put-if true (record { number = i; item = first }) (record { number = suc i + k; item = item })
          (landed_from (a - 1) b (suc i) items) (landed_from a b (suc i) items) (omega arith)
          (subst (λ n. IsInserted (record { number = suc i + k; item = item }) (landed_from (a - 1) b (suc i) items)
          (landed_from n b (suc i) items)) back
          (offer-put items (a - 1) b (suc i) k item offer there is less)))
      | inr e ↦
          let size : length (offer_of first.due first.kind) ≡ 0 = one ∙ ap (λ c. if c then 1 else 0) e in
          let less : length (offers_of (take k items)) ≡ a = omega arith in
          rw (e, next) (put-if (nat_lt 0 b) (record { number = i; item = first })
          (record { number = suc i + k; item = item }) (landed_from a (b - 1) (suc i) items)
          (landed_from (suc a) (b - 1) (suc i) items) (omega arith)
          (offer-put items a (b - 1) (suc i) k item offer there is less))
    ]

order-put : (items : List Item) (a b i k : ℕ) (item : Item) (order : DueCommand) → slice_get items k ≡ Some item →
    order_of item.due item.kind ≡ order ∷ [] →
    length (orders_of (take k items)) ≡ b →
    IsInserted (record { number = i + k; item = item }) (landed_from a b i items) (landed_from a (suc b) i items)
unfolding landed_from
order-put [] a b i k item order there is before = absurd cc
order-put (first ∷ items) a b i zero item order there is before =
    let same : first ≡ item = cc in
    let operator : is_client first.kind ≡ false =
    subst (λ (item : Item). is_client item.kind ≡ false) (sym same) (operator-order item.due item.kind order is)
    in
    let none : b ≡ 0 = sym before in
    let here : i + 0 ≡ i = omega arith in
    rw (operator, none, here, sym same)
    (put-here (record { number = i; item = first }) (landed_from a 0 (suc i) items) (above a 0 (suc i) items))
order-put (first ∷ items) a b i (suc k) item order there is before =
    let next : i + suc k ≡ suc i + k = omega arith in
    let one = orders-size first.due first.kind in
    let sum = length-append (order_of first.due first.kind) (orders_of (take k items)) in
    elim (cases_Bool (is_client first.kind)) [
      | inr e ↦
          let size : length (order_of first.due first.kind) ≡ 1 = one ∙ ap (λ c. if c then 0 else 1) e in
          let less : length (orders_of (take k items)) ≡ b - 1 = omega arith in
          let some : nat_lt 0 b ≡ true = grind (arith, (let h : 0 < b = omega arith in h)) in
          let back : suc (b - 1) ≡ b = omega arith in
          let full : nat_lt 0 (suc b) ≡ true = grind (arith, (let h : 0 < suc b = omega arith in h)) in
          let less_one : suc b - 1 ≡ b = omega arith in
          rw (e, some, next, full, less_one)
          (put-if true (record { number = i; item = first }) (record { number = suc i + k; item = item })
          (landed_from a (b - 1) (suc i) items) (landed_from a b (suc i) items) (omega arith)
          (subst (λ n. IsInserted (record { number = suc i + k; item = item }) (landed_from a (b - 1) (suc i) items)
          (landed_from a n (suc i) items)) back
          (order-put items a (b - 1) (suc i) k item order there is less)))
      | inl e ↦
          let size : length (order_of first.due first.kind) ≡ 0 = one ∙ ap (λ c. if c then 0 else 1) e in
          let less : length (orders_of (take k items)) ≡ b = omega arith in
          rw (e, next) (put-if (nat_lt 0 a) (record { number = i; item = first })
          (record { number = suc i + k; item = item }) (landed_from (a - 1) b (suc i) items)
          (landed_from (a - 1) (suc b) (suc i) items) (omega arith)
          (order-put items (a - 1) b (suc i) k item order there is less))
    ]

pub landed-frame : (leg : Leg) (s : Counts) (item : Numbered) (offer : DueFrame) →
    IsOfferAt leg.items s.frames item offer →
    IsInserted item (landed_items leg s) (landed_items leg (record s { frames = s.frames + 1 }))
landed-frame leg s item offer at =
    let e : suc s.frames ≡ s.frames + 1 = omega arith in
    let n : 0 + item.number ≡ item.number = omega arith in
    subst (λ (found : Numbered). IsInserted found (landed_items leg s)
    (landed_items leg (record s { frames = s.frames + 1 })))
    (ap (λ number. record { number = number; item = item.item }) n)
    (subst (λ a. IsInserted (record { number = 0 + item.number; item = item.item })
    (landed_from s.frames s.commands 0 leg.items) (landed_from a s.commands 0 leg.items)) e
    (offer-put leg.items s.frames s.commands 0 item.number item.item offer at.there at.is at.before))

pub landed-command : (leg : Leg) (s : Counts) (item : Numbered) (order : DueCommand) →
    IsOrderAt leg.items s.commands item order →
    IsInserted item (landed_items leg s) (landed_items leg (record s { commands = s.commands + 1 }))
landed-command leg s item order at =
    let e : suc s.commands ≡ s.commands + 1 = omega arith in
    let n : 0 + item.number ≡ item.number = omega arith in
    subst (λ (found : Numbered). IsInserted found (landed_items leg s)
    (landed_items leg (record s { commands = s.commands + 1 })))
    (ap (λ number. record { number = number; item = item.item }) n)
    (subst (λ b. IsInserted (record { number = 0 + item.number; item = item.item })
    (landed_from s.frames s.commands 0 leg.items) (landed_from s.frames b 0 leg.items)) e
    (order-put leg.items s.frames s.commands 0 item.number item.item order at.there at.is at.before))

-- ---- refusals
refused-within : (P : ℕ → Type 0) (number : ℕ) (why : Option Refusal) → P number →
    All (λ (refused : ℕ × Refusal). P refused.0) (refused_by number why)
refused-within P number None here = λ k d inside. absurd (omega arith)
refused-within P number (Some why) here =
    All-cons (λ (refused : ℕ × Refusal). P refused.0) (number, why) [] here (λ k d inside. absurd (omega arith))

-- of items those that are refused, whatever refuses them
abbrev pub refusals_by : (Numbered → Option Refusal) → List Numbered → List (ℕ × Refusal)
refusals_by why items = flat_map (λ item. refused_by item.number (why item)) items

list-within : (P : ℕ → Type 0) (why : Numbered → Option Refusal) (items : List Numbered) →
    All (λ (other : Numbered). P other.number) items →
    All (λ (refused : ℕ × Refusal). P refused.0) (refusals_by why items)
list-within P why [] all = λ k d inside. absurd (omega arith)
list-within P why (item ∷ items) all =
    All-append (λ (refused : ℕ × Refusal). P refused.0) (refused_by item.number (why item)) (refusals_by why items)
    (refused-within P item.number (why item) (all 0 item (omega arith)))
    (list-within P why items (λ k d inside. all (suc k) d (omega arith)))

pub placed : (why : Numbered → Option Refusal) (item : Numbered) (was now : List Numbered) → IsInserted item was now →
    IsPlaced item.number (refused_by item.number (why item)) (refusals_by why was) (refusals_by why now)
placed why item was now put =
    let f = λ (item : Numbered). refused_by item.number (why item) in
    record {
      front = refusals_by why put.front;
      back = refusals_by why put.back;
      was_so = ap (refusals_by why) put.was_so ∙ flat_map-append f put.front put.back;
      is_so = ap (refusals_by why) put.is_so ∙ flat_map-append f put.front (item ∷ put.back)
          ∙ sym (append_assoc (refusals_by why put.front) (refused_by item.number (why item))
          (refusals_by why put.back));
      before = list-within (λ number. number < item.number) why put.front put.before;
      after = list-within (λ number. item.number < number) why put.back put.after;
    }

pub frame-placed : (leg : Leg) (s : Counts) (item : Numbered) (offer : DueFrame) →
    IsOfferAt leg.items s.frames item offer →
    IsPlaced item.number (refused_by item.number (refusal_at leg item)) (refusals_of leg s)
    (refusals_of leg (record s { frames = s.frames + 1 }))
frame-placed leg s item offer at =
    placed (refusal_at leg) item (landed_items leg s) (landed_items leg (record s { frames = s.frames + 1 }))
    (landed-frame leg s item offer at)

pub command-placed : (leg : Leg) (s : Counts) (item : Numbered) (order : DueCommand) →
    IsOrderAt leg.items s.commands item order →
    IsPlaced item.number (refused_by item.number (refusal_at leg item)) (refusals_of leg s)
    (refusals_of leg (record s { commands = s.commands + 1 }))
command-placed leg s item order at =
    placed (refusal_at leg) item (landed_items leg s)
    (landed_items leg (record s { commands = s.commands + 1 })) (landed-command leg s item order at)

-- ---- totals
pub one-more : (p : Numbered → Bool) (item : Numbered) (was now : List Numbered) → IsInserted item was now →
    length (filter p now) ≡ length (filter p was) + (if p item then 1 else 0)
one-more p item was now put =
    let a = filter-append p put.front put.back in
    let b = filter-append p put.front (item ∷ put.back) in
    let old : length (filter p was) ≡ length (filter p put.front) + length (filter p put.back) =
    ap (λ l. length (filter p l)) put.was_so ∙ ap length a ∙ length-append (filter p put.front) (filter p put.back) in
    let new : length (filter p now) ≡ length (filter p put.front) + length (filter p (item ∷ put.back)) =
    ap (λ l. length (filter p l)) put.is_so ∙ ap length b
    ∙ length-append (filter p put.front) (filter p (item ∷ put.back)) in
    let here : length (filter p (item ∷ put.back)) ≡ length (filter p put.back) + (if p item then 1 else 0) =
    one-here p item put.back in
    omega arith
  where
    one-here : (p : Numbered → Bool) (item : Numbered) (items : List Numbered) →
        length (filter p (item ∷ items)) ≡ length (filter p items) + (if p item then 1 else 0)
    one-here p item items = elim (cases_Bool (p item)) [ inl e ↦ rw e (omega arith) | inr e ↦ rw e (omega arith) ]

more-refused : (leg : Leg) (item : Numbered) (was now : List Numbered) → IsInserted item was now →
    length (refusals_among leg now) ≡ length (refusals_among leg was) + length
    (refused_by item.number (refusal_at leg item))
more-refused leg item was now put =
    let place = placed (refusal_at leg) item was now put in
    let own : List (ℕ × Refusal) = refused_by item.number (refusal_at leg item) in
    let old = ap length place.was_so ∙ length-append place.front place.back in
    let new = ap length place.is_so ∙ length-append (place.front ++ own) place.back in
    let rest = length-append place.front own in
    omega arith

abbrev totals_by : Leg → Counts → ℕ → ℕ → ℕ → Totals
totals_by leg s frames commands refused = record {
  ticks = s.ticks;
  taken = s.rows;
  frames = frames;
  commands = commands;
  refused = refused;
  got = length (delivered_of leg s.rows);
}

frame-told : (leg : Leg) (s : Counts) (why : Option Refusal) (number frames commands refused : ℕ) →
    totals_by leg s (frames + (if is_none why then 1 else 0)) (commands + 0)
    (refused + length (refused_by number why)) ≡ with_frame_told why (totals_by leg s frames commands refused)
frame-told leg s None number frames commands refused =
    let a : commands + 0 ≡ commands = omega arith in let b : refused + 0 ≡ refused = omega arith in rw (a, b) refl
frame-told leg s (Some why) number frames commands refused =
    let a : commands + 0 ≡ commands = omega arith in let b : frames + 0 ≡ frames = omega arith in rw (a, b) refl

command-told : (leg : Leg) (s : Counts) (why : Option Refusal) (number frames commands refused : ℕ) →
    totals_by leg s (frames + 0) (commands + (if is_none why then 1 else 0))
    (refused + length (refused_by number why)) ≡ with_command_told why (totals_by leg s frames commands refused)
command-told leg s None number frames commands refused =
    let a : frames + 0 ≡ frames = omega arith in let b : refused + 0 ≡ refused = omega arith in rw (a, b) refl
command-told leg s (Some why) number frames commands refused =
    let a : frames + 0 ≡ frames = omega arith in let b : commands + 0 ≡ commands = omega arith in rw (a, b) refl

counted : (leg : Leg) (s : Counts) (a b c d e f : ℕ) → a ≡ b → c ≡ d → e ≡ f →
    totals_by leg s a c e ≡ totals_by leg s b d f
counted leg s a b c d e f one two three = rw (one, two, three) refl

pub frame-totals : (leg : Leg) (s : Counts) (item : Numbered) (offer : DueFrame) →
    IsOfferAt leg.items s.frames item offer →
    totals_of leg (record s { frames = s.frames + 1 }) ≡ with_frame_told (refusal_at leg item)
    (totals_of leg s)
frame-totals leg s item offer at =
    let was : List Numbered = landed_items leg s in
    let now : List Numbered = landed_items leg (record s { frames = s.frames + 1 }) in
    let put = landed-frame leg s item offer at in
    let why : Option Refusal = refusal_at leg item in
    let client = client-offer item.item.due item.item.kind offer at.is in
    counted leg s (length (filter (is_accepted_frame leg) now))
    (length (filter (is_accepted_frame leg) was) + (if is_none why then 1 else 0))
    (length (filter (is_accepted_command leg) now)) (length (filter (is_accepted_command leg) was) + 0)
    (length (refusals_among leg now)) (length (refusals_among leg was) + length (refused_by item.number why))
    (one-more (is_accepted_frame leg) item was now put
    ∙ ap (λ c. length (filter (is_accepted_frame leg) was) + (if c && is_none why then 1 else 0)) client)
    (one-more (is_accepted_command leg) item was now put
    ∙ ap (λ c. length (filter (is_accepted_command leg) was) + (if not c && is_none why then 1 else 0)) client)
    (more-refused leg item was now put)
    ∙ frame-told leg s why item.number (length (filter (is_accepted_frame leg) was))
    (length (filter (is_accepted_command leg) was)) (length (refusals_among leg was))

pub command-totals : (leg : Leg) (s : Counts) (item : Numbered) (order : DueCommand) →
    IsOrderAt leg.items s.commands item order →
    totals_of leg (record s { commands = s.commands + 1 }) ≡ with_command_told (refusal_at leg item)
    (totals_of leg s)
command-totals leg s item order at =
    let was : List Numbered = landed_items leg s in
    let now : List Numbered = landed_items leg (record s { commands = s.commands + 1 }) in
    let put = landed-command leg s item order at in
    let why : Option Refusal = refusal_at leg item in
    let operator = operator-order item.item.due item.item.kind order at.is in
    counted leg s (length (filter (is_accepted_frame leg) now))
    (length (filter (is_accepted_frame leg) was) + 0)
    (length (filter (is_accepted_command leg) now))
    (length (filter (is_accepted_command leg) was) + (if is_none why then 1 else 0))
    (length (refusals_among leg now)) (length (refusals_among leg was) + length (refused_by item.number why))
    (one-more (is_accepted_frame leg) item was now put
    ∙ ap (λ c. length (filter (is_accepted_frame leg) was) + (if c && is_none why then 1 else 0)) operator)
    (one-more (is_accepted_command leg) item was now put
    ∙ ap (λ c. length (filter (is_accepted_command leg) was) + (if not c && is_none why then 1 else 0)) operator)
    (more-refused leg item was now put)
    ∙ command-told leg s why item.number (length (filter (is_accepted_frame leg) was))
    (length (filter (is_accepted_command leg) was)) (length (refusals_among leg was))

-- ---- What the source of a walk was told is the session's.
few-used : (rows ticks backs used : ℕ) → rows ≤ ticks → backs ≤ (rows - 8) / 16 → used ≤ backs → used ≤ (ticks - 8) / 16
few-used rows ticks backs used low most taken = omega arith

-- ---- why an offer is refused, or an order
same-first : {X : Type 0} (x y : X) → x ∷ [] ≡ y ∷ [] → x ≡ y
same-first x y e = cc

pub offer-refusal : (scenario : Scenario) (cells : List (Option Told)) (due : ℕ) (earlier : List Item) (kind : ItemKind)
    (offer : DueFrame) → offer_of due kind ≡ offer ∷ [] →
    kind_refusal scenario cells due earlier kind ≡ option_map frame_fault
    (frame_refusal offer.frame (stream_met scenario cells offer.due (offers_of earlier)))
offer-refusal scenario cells due earlier (Frame octets) offer is =
    ap (λ (o : DueFrame). option_map frame_fault
    (frame_refusal o.frame (stream_met scenario cells o.due (offers_of earlier))))
    (same-first (record { due = due; frame = octets }) offer is)
offer-refusal scenario cells due earlier (Add line) offer is = absurd cc
offer-refusal scenario cells due earlier (Remove line) offer is = absurd cc

order-refusal : (scenario : Scenario) (cells : List (Option Told)) (due : ℕ) (earlier : List Item) (kind : ItemKind)
    (order : DueCommand) → order_of due kind ≡ order ∷ [] →
    kind_refusal scenario cells due earlier kind
    ≡ option_map command_fault (refusal (length scenario.windows) order.command
    (source_met scenario cells order.due (orders_of earlier)))
order-refusal scenario cells due earlier (Frame octets) order is = absurd cc
order-refusal scenario cells due earlier (Add line) order is =
    ap (λ (o : DueCommand). option_map command_fault
    (refusal (length scenario.windows) o.command (source_met scenario cells o.due (orders_of earlier))))
    (same-first (record { due = due; command = add line }) order is)
order-refusal scenario cells due earlier (Remove line) order is =
    ap (λ (o : DueCommand). option_map command_fault
    (refusal (length scenario.windows) o.command (source_met scenario cells o.due (orders_of earlier))))
    (same-first (record { due = due; command = remove line }) order is)

module _ (leg : Leg) (s : Counts) (can : CanWalk leg) (walked : IsWalked leg s) where
  abbrev session : List (Option Told)
  session = session_cells (scenario_by leg)

  few : used_in leg.config.lag s.ticks ≤ packets (scenario_by leg)
  few =
      let f = fits leg s can walked in
      few-used s.rows leg.config.ticks s.backs (used_in leg.config.lag s.ticks) f.rows f.backs f.used

  told-alike : Alike (landed_scenario leg s) (told_before leg s.ticks) (scenario_by leg) session s.ticks
  told-alike = record {
    lines = refl;
    lag = refl;
    size = refl;
    statuses = refl;
    orders = λ j low. orders-landed leg s j walked (omega arith);
    cells = Agree-first (scenario_by leg) (told_before leg s.ticks) session (steps_in s.ticks)
        (session-agree (scenario_by leg) (used_in leg.config.lag s.ticks) (used_in leg.config.lag s.ticks) few
        (omega arith));
    offers = λ u low. frames-landed leg s u walked low;
    tells = λ k low. refl;
  }

  pub told-tables : (j : ℕ) → j ≤ steps_in s.ticks →
      after (landed_scenario leg s) (told_before leg s.ticks) j ≡ after (scenario_by leg) session j
  told-tables j low = alike-after (landed_scenario leg s) (told_before leg s.ticks)
      (scenario_by leg) session s.ticks j told-alike low

  pub told-streams : (t : ℕ) → t ≤ s.ticks →
      stream_before (landed_scenario leg s) (told_before leg s.ticks) t ≡ stream_before
      (scenario_by leg) session t
  told-streams t low =
      alike-stream (landed_scenario leg s) (told_before leg s.ticks) (scenario_by leg) session t
      (Alike-sooner (landed_scenario leg s) (told_before leg s.ticks) (scenario_by leg) session t s.ticks low
      told-alike)

  pub told-frames : (t : ℕ) → t < s.ticks →
      frame_of (landed_scenario leg s) (told_before leg s.ticks) t ≡ frame_of (scenario_by leg) session t
  told-frames t low =
      alike-frame (landed_scenario leg s) (told_before leg s.ticks) (scenario_by leg) session t
      (Alike-sooner (landed_scenario leg s) (told_before leg s.ticks) (scenario_by leg) session (suc t) s.ticks
      (omega arith) told-alike)

  -- ---- the next item
  pub meets-stream : (item : Numbered) (offer : DueFrame) → IsOfferAt leg.items s.frames item offer →
      offer.due ≤ s.ticks →
      refusal_at leg item
      ≡ option_map frame_fault (frame_refusal offer.frame
      (fold offered (stream_before (landed_scenario leg s) (told_before leg s.ticks) s.ticks)
      (frames_at (landed_scenario leg s) s.ticks)))
  meets-stream item offer at due =
      let (there, earlier) = offer-at leg.items s.frames item offer at in
      let late = frame-waits leg s s.frames offer walked (omega arith) there in
      let now : offer.due ≡ s.ticks = omega arith in
      let answer = λ (stream : Stream). option_map frame_fault (frame_refusal offer.frame stream) in
      offer-refusal (scenario_by leg) session item.item.due (take item.number leg.items) item.item.kind offer
      at.is
      ∙ ap (λ (offers : List DueFrame). answer (stream_met (scenario_by leg) session offer.due offers)) earlier
      ∙ ap (λ t. answer (stream_met (scenario_by leg) session t (take s.frames (offers_of leg.items)))) now
      ∙ ap (λ (stream : Stream). answer (fold offered stream (frames_at (landed_scenario leg s) s.ticks)))
      (sym (told-streams s.ticks (omega arith)))

  pub meets-source : (item : Numbered) (order : DueCommand) → IsOrderAt leg.items s.commands item order →
      order.due ≤ s.ticks →
      refusal_at leg item
      ≡ option_map command_fault (refusal (length leg.config.windows) order.command
      (source_at (landed_scenario leg s) (told_before leg s.ticks) (steps_in s.ticks)))
  meets-source item order at due =
      let (there, earlier) = order-at leg.items s.commands item order at in
      let late = command-waits leg s s.commands order walked (omega arith) there in
      let now : order.due ≡ s.ticks = omega arith in
      let answer = λ (source : Source). option_map command_fault
      (refusal (length leg.config.windows) order.command source) in
      order-refusal (scenario_by leg) session item.item.due (take item.number leg.items) item.item.kind order
      at.is
      ∙ ap (λ (orders : List DueCommand). answer (source_met (scenario_by leg) session order.due orders)) earlier
      ∙ ap (λ t. answer (source_met (scenario_by leg) session t (take s.commands (orders_of leg.items)))) now
      ∙ ap (λ (source : Source). answer
      (asked_all (length leg.config.windows) (orders_at (landed_scenario leg s) (steps_in s.ticks)) source))
      (sym (told-tables (steps_in s.ticks) (omega arith)))
