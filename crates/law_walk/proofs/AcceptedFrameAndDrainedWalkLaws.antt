-- The accepted frames of a leg, what is promised of them, and a walk that made all ticks as its rows were taken.
use Rattle.std.proofs.Common.{◌≡◌, ℕ, zero, suc, ◌<◌, ◌≤◌, true, false, inl, inr, List, [], ◌∷◌, ◌++◌, map, filter}
use Rattle.std.proofs.Common.{fold, take, length, All, Option, Some, None, option_map, refl, sym, ◌∙◌, ap, ap₂, arith}
use Rattle.std.proofs.Common.{append_assoc, length-append, flat_map, append-nil, take_at, ◌+◌, ◌*◌, subst, ◌-◌, nat_lt}
use Rattle.std.proofs.Common.{◌&&◌, if◌then◌else◌, slice_get, is_none, lt-ltb}
use Rattle.std.proofs.lemmas.Bool.{cases_Bool, cases_lt}
use Rattle.std.proofs.lemmas.Bool.Decides.{nat_tests}
use Rattle.std.proofs.lemmas.List.{map-append, length-map}
use Rattle.std.proofs.lemmas.List.Concat.{flat_map-append}
use Rattle.std.proofs.lemmas.List.Elements.{filter-append, filter_passes, All-cons}
use Rattle.std.proofs.lemmas.List.Sums.{fold-append}
use Rattle.law_model.specs.Common.{Leg, kept_by, Scenario, DueFrame, offer_of, offers_of, scenario_by, comes_at, Told}
use Rattle.law_model.specs.Common.{session_cells, Stream, frame_refusal, offered, stream_before, accepted_offers}
use Rattle.law_model.specs.Common.{offers_before, frames_before, IsItem, IsSound, frames_by, steps_in, after, Counts}
use Rattle.law_model.specs.Common.{Extent, frames_kept, DueCommand, order_of, orders_of, due_of, dues_of, frame_dues}
use Rattle.law_model.specs.Common.{command_dues}
use Rattle.law_model.specs.declared.item_refusals.AcceptFault.{AcceptFault}
use Rattle.law_model.specs.declared.script_types.Item.{Item}
use Rattle.law_model.specs.declared.script_types.ItemKind.{ItemKind}
use Rattle.law_model.specs.declared.item_refusals.Refusal.{Refusal}
use Rattle.law_model.specs.declared.script_types.ItemKind.TheVariants.{Frame, Add, Remove}
use Rattle.law_session.specs.LandingByStep.{landed, is_come}
use Rattle.law_session.proofs.ClientStreamAndReplayLaws.{comes_apart, offers_land, stream_before-frames}
use Rattle.law_model.specs.declared.item_refusals.Refusal.TheVariants.{Frame as frame_fault}
use Rattle.law_loss.proofs.ClientFrameExtentLaws.{filter-skip, filter-keep}
use Rattle.law_walk.specs.Common.{Numbered, stream_met, kind_refusal, refusal_at, numbered, frame_by, accepted_frames}
use Rattle.law_walk.specs.Common.{walk_plan, CanWalk, IsWalked, session_rows, delivered_of, session_pieces}
use Rattle.law_walk.specs.Common.{session_extents, session_waiting, place_after, HasNoFailure, ConfirmsTrue, drained}
use Rattle.law_walk.specs.Common.{InUseBy, is_client, landed_from, landed_items, is_accepted_frame, totals_of}
use Rattle.law_walk.specs.Common.{report_among, report_of, final_report}
use Rattle.law_loss.proofs.ItemDueTicksLaws.{offers_rise, are_octets}
use Rattle.law_session.specs.LineInUse.{IsInUse, IsUsedBy, AddsUndamaged, AddsAmongSilent, known_by}
use Rattle.law_session.proofs.LineBroughtForwardLaws.{undamaged, among_silent}
use Rattle.law_progress.proofs.RoundProgressAndDrainLaws.{reached-ends, rows-ticks}
use Rattle.law_loss.specs.CarriedStream.{IsUndamaged}
use Rattle.law_loss.proofs.SessionStreamLossLaws.{session-kept, session-hitless, session-prefix, frames-extents}
use Rattle.law_walk.proofs.WalkPlanAndPoppedCellLaws.{has-plan, sound-walks, fits, drains-walked}
use Rattle.std.proofs.lemmas.Option.{get_or_from_slice_get}
use Rattle.law_model.proofs.ListLaws.{slice_get-inside}
use Rattle.law_walk.proofs.LandedItemRefusalAndTotalLaws.{Ahead, frame-dues, command-dues, walked-ahead, offers-size}
use Rattle.law_walk.proofs.LandedItemRefusalAndTotalLaws.{orders-size}

-- ---- The frames that a session accepts are those of the items that aren't refused.
-- ---- offers one after another
-- a frame, where it isn't refused
abbrev kept : Option AcceptFault → List ℕ → List (List ℕ)
kept None frame = frame ∷ []
kept (Some why) frame = []

module _ (scenario : Scenario) (cells : List (Option Told)) where
  -- those that are accepted of offers that come after others
  unfoldable pub judged : List DueFrame → List DueFrame → List (List ℕ)
  judged before [] = []
  judged before (offer ∷ offers) =
      kept (frame_refusal offer.frame (stream_met scenario cells offer.due before)) offer.frame ++ judged
      (before ++ offer ∷ []) offers

  pub judged-append : (before xs ys : List DueFrame) →
      judged before (xs ++ ys) ≡ judged before xs ++ judged (before ++ xs) ys
  unfolding judged
  judged-append before [] ys = ap (λ l. judged l ys) (sym (append-nil before))
  judged-append before (x ∷ xs) ys =
      let own : List (List ℕ) = kept (frame_refusal x.frame (stream_met scenario cells x.due before)) x.frame in
      ap (λ l. own ++ l) (judged-append (before ++ x ∷ []) xs ys
      ∙ ap (λ l. judged (before ++ x ∷ []) xs ++ judged l ys) (append_assoc before (x ∷ []) xs))
      ∙ sym (append_assoc own (judged (before ++ x ∷ []) xs) (judged (before ++ x ∷ xs) ys))

  -- ---- those that land in one number of ticks
  due-of : (t : ℕ) (offer : DueFrame) → comes_at t offer ≡ true → offer.due ≡ t
  due-of t offer comes = grind (arith, nat_tests, comes)

  accepted-on : (t : ℕ) (before earlier offers : List DueFrame) → filter (comes_at t) before ≡ [] →
      filter (comes_at t) earlier ≡ earlier →
      All (λ (offer : DueFrame). comes_at t offer ≡ true) offers →
      judged (before ++ earlier) offers
      ≡ map (λ (offer : DueFrame). offer.frame)
      (accepted_offers (fold offered (stream_before scenario cells t)
      (map (λ (offer : DueFrame). offer.frame) earlier)) offers)
  unfolding judged
  accepted-on t before earlier [] none all come = refl
  accepted-on t before earlier (offer ∷ offers) none all come =
      let frame_of = λ (offer : DueFrame). offer.frame in
      let start : Stream = stream_before scenario cells t in
      let state : Stream = fold offered start (map frame_of earlier) in
      let here : comes_at t offer ≡ true = come 0 offer (omega arith) in
      let due = due-of t offer here in
      let met : stream_met scenario cells offer.due (before ++ earlier) ≡ state =
      ap (λ t. stream_met scenario cells t (before ++ earlier)) due
      ∙ ap (λ l. fold offered start (map frame_of l)) (filter-append (comes_at t) before earlier ∙ ap₂ ◌++◌ none all) in
      let more : fold offered start (map frame_of (earlier ++ offer ∷ [])) ≡ offered state offer.frame =
      ap (fold offered start) (map-append frame_of earlier (offer ∷ []))
      ∙ fold-append offered start (map frame_of earlier) (offer.frame ∷ []) in
      let longer : filter (comes_at t) (earlier ++ offer ∷ []) ≡ earlier ++ offer ∷ [] =
      filter-append (comes_at t) earlier (offer ∷ []) ∙ ap₂ ◌++◌ all (filter-keep (comes_at t) offer [] here) in
      let rest = accepted-on t before (earlier ++ offer ∷ []) offers none longer
      (λ k d inside. come (suc k) d (omega arith)) in
      ap₂ (λ (stream : Stream) l. kept (frame_refusal offer.frame stream) offer.frame ++ l) met
      (ap (λ l. judged l offers) (append_assoc before earlier (offer ∷ [])) ∙ rest
      ∙ ap (λ (stream : Stream). map frame_of (accepted_offers stream offers)) more)
      ∙ kept-map (frame_refusal offer.frame state) offer (accepted_offers (offered state offer.frame) offers)
    where
      kept-map : (why : Option AcceptFault) (offer : DueFrame) (offers : List DueFrame) →
          kept why offer.frame ++ map (λ (offer : DueFrame). offer.frame) offers ≡ map
          (λ (offer : DueFrame). offer.frame) (kept_by why offer offers)
      kept-map None offer offers = refl
      kept-map (Some why) offer offers = refl

  -- ---- tick by tick
  apart : (i t : ℕ) (offers : List DueFrame) → i < t → filter (comes_at t) (filter (comes_at i) offers) ≡ []
  apart i t [] low = refl
  apart i t (offer ∷ offers) low =
      elim (cases_Bool (comes_at i offer)) [
        | inl e ↦
            let other : comes_at t offer ≡ false = comes_apart t i offer (λ same. omega arith) e in
            rw e (filter-skip (comes_at t) offer (filter (comes_at i) offers) other ∙ apart i t offers low)
        | inr e ↦ rw e (apart i t offers low)
      ]

  none-yet : (offers : List DueFrame) (n t : ℕ) → n ≤ t → filter (comes_at t) (landed comes_at offers n) ≡ []
  unfolding landed
  none-yet offers zero t low = refl
  none-yet offers (suc n) t low =
      filter-append (comes_at t) (landed comes_at offers n) (filter (comes_at n) offers)
      ∙ ap₂ ◌++◌ (none-yet offers n t (omega arith)) (apart n t offers (omega arith))

  pub landed-judged : (n : ℕ) → judged [] (landed comes_at scenario.offers n) ≡ frames_before scenario cells n
  unfolding judged landed offers_before
  landed-judged zero = refl
  landed-judged (suc n) =
      let frame_of = λ (offer : DueFrame). offer.frame in
      let before : List DueFrame = landed comes_at scenario.offers n in
      let now : List DueFrame = filter (comes_at n) scenario.offers in
      judged-append [] before now
      ∙ ap₂ ◌++◌ (landed-judged n)
      (ap (λ l. judged l now) (sym (append-nil before))
      ∙ accepted-on n before [] now (none-yet scenario.offers n n (omega arith)) refl
      (filter_passes (comes_at n) scenario.offers))
      ∙ sym (map-append frame_of (offers_before scenario cells n)
      (accepted_offers (stream_before scenario cells n) now))

-- ---- the items of a leg
abbrev pub offers_by : Item → List DueFrame
offers_by item = offer_of item.due item.kind

frame-kept : (why : Option AcceptFault) (octets : List ℕ) →
    frame_by (option_map frame_fault why) (Frame octets) ≡ kept why octets
frame-kept None octets = refl
frame-kept (Some why) octets = refl

pub no-frame-add : (why : Option Refusal) (line : ℕ) → frame_by why (Add line) ≡ []
no-frame-add None line = refl
no-frame-add (Some why) line = refl

pub no-frame-remove : (why : Option Refusal) (line : ℕ) → frame_by why (Remove line) ≡ []
no-frame-remove None line = refl
no-frame-remove (Some why) line = refl

pub kind-judged : (scenario : Scenario) (cells : List (Option Told)) (due : ℕ) (front : List Item) (kind : ItemKind)
    (more : List DueFrame) →
    frame_by (kind_refusal scenario cells due front kind) kind ++ judged scenario cells
    (offers_of front ++ offer_of due kind) more
    ≡ judged scenario cells (offers_of front) (offer_of due kind ++ more)
unfolding judged
kind-judged scenario cells due front (Frame octets) more =
    ap (λ l. l ++ judged scenario cells (offers_of front ++ record { due = due; frame = octets } ∷ []) more)
    (frame-kept (frame_refusal octets (stream_met scenario cells due (offers_of front))) octets)
kind-judged scenario cells due front (Add line) more =
    ap₂ (λ l (before : List DueFrame). l ++ judged scenario cells before more)
    (no-frame-add (kind_refusal scenario cells due front (Add line)) line) (append-nil (offers_of front))
kind-judged scenario cells due front (Remove line) more =
    ap₂ (λ l (before : List DueFrame). l ++ judged scenario cells before more)
    (no-frame-remove (kind_refusal scenario cells due front (Remove line)) line) (append-nil (offers_of front))

pub items-judged : (leg : Leg) (rest front : List Item) → leg.items ≡ front ++ rest →
    flat_map (λ (item : Numbered). frame_by (refusal_at leg item) item.item.kind) (numbered (length front) rest)
    ≡ judged (scenario_by leg) (session_cells (scenario_by leg)) (offers_of front) (offers_of rest)
unfolding numbered judged
items-judged leg [] front parts = refl
items-judged leg (item ∷ rest) front parts =
    let scenario : Scenario = scenario_by leg in
    let cells : List (Option Told) = session_cells (scenario_by leg) in
    let first : take (length front) leg.items ≡ front = ap (take (length front)) parts
    ∙ take_at front (item ∷ rest) (length front) refl in
    let size : suc (length front) ≡ length (front ++ item ∷ []) = let e = length-append front (item ∷ []) in
    omega arith in
    let next = items-judged leg rest (front ++ item ∷ []) (parts ∙ sym (append_assoc front (item ∷ []) rest)) in
    let offers : offers_of (front ++ item ∷ []) ≡ offers_of front ++ offers_by item =
    flat_map-append offers_by front (item ∷ [])
    ∙ ap (λ l. offers_of front ++ l) (append-nil (offers_by item)) in
    ap₂ ◌++◌ (ap (λ earlier. frame_by (kind_refusal scenario cells item.due earlier item.kind) item.kind) first)
    (ap (λ n. flat_map (λ (item : Numbered). frame_by (refusal_at leg item) item.item.kind) (numbered n rest)) size
    ∙ next
    ∙ ap (λ before. judged scenario cells before (offers_of rest)) offers)
    ∙ kind-judged scenario cells item.due front item.kind (offers_of rest)

-- ---- all of them land
kind-comes : (ticks due : ℕ) (kind : ItemKind) → due < ticks →
    filter (is_come ticks) (offer_of due kind) ≡ offer_of due kind
kind-comes ticks due (Frame octets) low =
    filter-keep (is_come ticks) (record { due = due; frame = octets }) [] (grind (arith, low))
kind-comes ticks due (Add line) low = refl
kind-comes ticks due (Remove line) low = refl

all-come : (ticks : ℕ) (items : List Item) → All (IsItem ticks) items →
    filter (is_come ticks) (offers_of items) ≡ offers_of items
all-come ticks [] each = refl
all-come ticks (item ∷ items) each =
    filter-append (is_come ticks) (offers_by item) (offers_of items)
    ∙ ap₂ ◌++◌ (kind-comes ticks item.due item.kind (each 0 item (omega arith)).0)
    (all-come ticks items (λ k d inside. each (suc k) d (omega arith)))

pub frames-accepted : (leg : Leg) → IsSound leg →
    frames_before (scenario_by leg) (session_cells (scenario_by leg)) leg.config.ticks ≡ accepted_frames leg
unfolding numbered
frames-accepted leg sound =
    let scenario : Scenario = scenario_by leg in
    let cells : List (Option Told) = session_cells (scenario_by leg) in
    let sorted = offers_rise leg.items sound.items.frames in
    sym (landed-judged scenario cells leg.config.ticks)
    ∙ ap (judged scenario cells [])
    (offers_land scenario.offers leg.config.ticks sorted
    ∙ all-come leg.config.ticks leg.items sound.items.each)
    ∙ sym (items-judged leg leg.items [] refl)

-- ---- What is promised of a leg.
-- ---- the end
pub drain-ends : (leg : Leg) (s : Counts) → CanWalk leg → IsWalked leg s →
    (drained leg s).rows ≡ leg.config.ticks
drain-ends leg s can walked = reached-ends (walk_plan leg) s (has-plan leg can) walked

-- ---- no failure
module _ (leg : Leg) (sound : IsSound leg) (none : HasNoFailure leg) where
  fine : IsUndamaged (scenario_by leg)
  fine = record { some_line = (sound-walks leg sound).some; none = none }

  pub fine-carried : (rows : ℕ) → rows ≤ leg.config.ticks →
      delivered_of leg rows ≡ frames_by (place_after leg rows) (session_pieces leg)
  fine-carried rows low =
      session-hitless (scenario_by leg) (session_cells (scenario_by leg)) rows leg.config.ticks
      (are_octets leg sound) fine low

  pub fine-first : (rows : ℕ) → rows ≤ leg.config.ticks →
      delivered_of leg rows ≡ take (length (delivered_of leg rows)) (accepted_frames leg)
  fine-first rows low =
      session-prefix (scenario_by leg) (session_cells (scenario_by leg)) rows leg.config.ticks
      (are_octets leg sound) fine low
      ∙ ap (take (length (delivered_of leg rows))) (frames-accepted leg sound)

  pub fine-drained : (s : Counts) → IsWalked leg s →
      delivered_of leg (drained leg s).rows ≡ frames_by (place_after leg leg.config.ticks)
      (session_pieces leg)
  fine-drained s walked =
      ap (delivered_of leg) (drain-ends leg s (sound-walks leg sound) walked)
      ∙ fine-carried leg.config.ticks (omega arith)

-- ---- failures
pub frames-kept : (leg : Leg) (rows : ℕ) → IsSound leg → rows ≤ leg.config.ticks →
    ConfirmsTrue leg rows →
    delivered_of leg rows ≡ frames_kept (session_pieces leg) (session_rows leg rows)
frames-kept leg rows sound low true_starts =
    session-kept (scenario_by leg) (session_cells (scenario_by leg)) rows leg.config.ticks
    (are_octets leg sound) low true_starts

pub frames-known : (leg : Leg) → IsSound leg →
    map (λ (extent : Extent). extent.frame) (session_extents leg) ++ session_waiting leg ≡ accepted_frames leg
frames-known leg sound =
    ap (λ l. l ++ session_waiting leg) (frames-extents 0 (session_pieces leg))
    ∙ stream_before-frames (scenario_by leg) (session_cells (scenario_by leg)) leg.config.ticks
    ∙ frames-accepted leg sound

-- ---- when a line is in use
used-by : (leg : Leg) (line first last : ℕ) → IsUsedBy (scenario_by leg) line first last →
    InUseBy leg line first last
used-by leg line first last used =
    let before = used.before in
    let e : suc used.packet ≡ steps_in (16 * used.packet + 9) = omega arith in
    record {
      packet = used.packet;
      from = used.from;
      until = omega arith;
      in_use = subst (λ n. IsInUse (after (scenario_by leg) (session_cells (scenario_by leg)) n).table line) e
          used.in_use;
    }

pub used-undamaged : (leg : Leg) (first line : ℕ) → AddsUndamaged (scenario_by leg) first line →
    InUseBy leg line first (known_by (scenario_by leg) first)
used-undamaged leg first line adds =
    used-by leg line first (known_by (scenario_by leg) first) (undamaged (scenario_by leg) first line adds)

pub used-among_silent : (leg : Leg) (first line : ℕ) → AddsAmongSilent (scenario_by leg) first line →
    InUseBy leg line first (known_by (scenario_by leg) (known_by (scenario_by leg) first))
used-among_silent leg first line adds =
    used-by leg line first (known_by (scenario_by leg) (known_by (scenario_by leg) first))
    (among_silent (scenario_by leg) first line adds)

-- ---- A walk whose rows are all taken has made all ticks, and all items have landed.
pub counts-within : (leg : Leg) (s : Counts) → CanWalk leg → IsWalked leg s → (s.rows ≤ s.ticks) ×
    (s.ticks ≤ leg.config.ticks)
counts-within leg s can walked =
    let plan = has-plan leg can in
    let f = fits leg s can walked in
    (rows-ticks plan.slow plan.fast plan.slip (walk_plan leg) plan.is s f, f.ticks)

-- ---- due ticks
frames-due : (ticks : ℕ) (items : List Item) → All (IsItem ticks) items →
    All (λ due. due < ticks) (frame_dues (dues_of items))
unfolding frame_dues
frames-due ticks [] each = λ k d inside. absurd (omega arith)
frames-due ticks (item ∷ items) each =
    by-kind ticks item.due item.kind items (each 0 item (omega arith)).0
    (frames-due ticks items (λ k d inside. each (suc k) d (omega arith)))
  where
    by-kind : (ticks due : ℕ) (kind : ItemKind) (items : List Item) → due < ticks →
        All (λ due. due < ticks) (frame_dues (dues_of items)) →
        All (λ due. due < ticks) (frame_dues (due_of due kind ∷ dues_of items))
    by-kind ticks due (Frame octets) items low rest =
        All-cons (λ due. due < ticks) due (frame_dues (dues_of items)) low rest
    by-kind ticks due (Add line) items low rest = rest
    by-kind ticks due (Remove line) items low rest = rest

commands-due : (ticks : ℕ) (items : List Item) → All (IsItem ticks) items →
    All (λ due. due < ticks) (command_dues (dues_of items))
unfolding command_dues
commands-due ticks [] each = λ k d inside. absurd (omega arith)
commands-due ticks (item ∷ items) each =
    by-kind ticks item.due item.kind items (each 0 item (omega arith)).0
    (commands-due ticks items (λ k d inside. each (suc k) d (omega arith)))
  where
    by-kind : (ticks due : ℕ) (kind : ItemKind) (items : List Item) → due < ticks →
        All (λ due. due < ticks) (command_dues (dues_of items)) →
        All (λ due. due < ticks) (command_dues (due_of due kind ∷ dues_of items))
    by-kind ticks due (Frame octets) items low rest = rest
    by-kind ticks due (Add line) items low rest =
        All-cons (λ due. due < ticks) due (command_dues (dues_of items)) low rest
    by-kind ticks due (Remove line) items low rest =
        All-cons (λ due. due < ticks) due (command_dues (dues_of items)) low rest

-- a list of numbers below a bound has none at a place where only others could stand
past-end : (dues : List ℕ) (ticks from : ℕ) → All (λ due. due < ticks) dues →
    ((due : ℕ) → slice_get dues from ≡ Some due → ticks ≤ due) → length dues ≤ from
past-end dues ticks from each late =
    elim (cases_lt from (length dues)) [
      | inr past ↦ past
      | inl inside ↦
          let (due, there) = slice_get-inside dues from inside in
          let low : due < ticks = subst (λ n. n < ticks) (get_or_from_slice_get dues from due due there)
          (each from due inside) in
          let high = late due there in
          absurd (omega arith)
    ]

-- ---- all have landed
all-landed : (items : List Item) (a b i : ℕ) → length (offers_of items) ≤ a → length (orders_of items) ≤ b →
    landed_from a b i items ≡ numbered i items
unfolding landed_from numbered
all-landed [] a b i frames commands = refl
all-landed (item ∷ items) a b i frames commands =
    let offers = offers-size item.due item.kind in
    let orders = orders-size item.due item.kind in
    let more_offers = length-append (offer_of item.due item.kind) (offers_of items) in
    let more_orders = length-append (order_of item.due item.kind) (orders_of items) in
    elim (cases_Bool (is_client item.kind)) [
      | inl e ↦
          let one : length (offer_of item.due item.kind) ≡ 1 = offers ∙ ap (λ c. if c then 1 else 0) e in
          let some : nat_lt 0 a ≡ true = lt-ltb 0 a (omega arith) in
          rw (e, some) (ap (λ l. record { number = i; item = item } ∷ l)
          (all-landed items (a - 1) b (suc i) (omega arith) (omega arith)))
      | inr e ↦
          let one : length (order_of item.due item.kind) ≡ 1 = orders ∙ ap (λ c. if c then 0 else 1) e in
          let some : nat_lt 0 b ≡ true = lt-ltb 0 b (omega arith) in
          rw (e, some) (ap (λ l. record { number = i; item = item } ∷ l)
          (all-landed items a (b - 1) (suc i) (omega arith) (omega arith)))
    ]

-- where nothing waits that is due before the last tick
pub ended-landed : (leg : Leg) → IsSound leg → (frames commands : ℕ) →
    Ahead (dues_of leg.items) leg.config.ticks frames commands →
    (length (offers_of leg.items) ≤ frames) × (length (orders_of leg.items) ≤ commands) ×
    (landed_from frames commands 0 leg.items ≡ numbered 0 leg.items)
ended-landed leg sound frames commands ahead =
    let dues = past-end (frame_dues (dues_of leg.items)) leg.config.ticks frames
    (frames-due leg.config.ticks leg.items sound.items.each)
    (λ due there. ahead.of_frames frames due (omega arith) there) in
    let others = past-end (command_dues (dues_of leg.items)) leg.config.ticks commands
    (commands-due leg.config.ticks leg.items sound.items.each)
    (λ due there. ahead.of_commands commands due (omega arith) there) in
    let offers = ap length (frame-dues leg.items)
    ∙ length-map (offers_of leg.items) (λ (offer : DueFrame). offer.due) in
    let orders = ap length (command-dues leg.items)
    ∙ length-map (orders_of leg.items) (λ (order : DueCommand). order.due) in
    let most : length (offers_of leg.items) ≤ frames = omega arith in
    let most_orders : length (orders_of leg.items) ≤ commands = omega arith in
    (most, most_orders, all-landed leg.items frames commands 0 most most_orders)

module _ (leg : Leg) (s : Counts) (sound : IsSound leg) (walked : IsWalked leg s) where
  can : CanWalk leg
  can = sound-walks leg sound

  pub items-landed : s.ticks ≡ leg.config.ticks → landed_items leg s ≡ numbered 0 leg.items
  items-landed made =
      (ended-landed leg sound s.frames s.commands
      (subst (λ ticks. Ahead (dues_of leg.items) ticks s.frames s.commands) made
      (walked-ahead leg s walked))).2

  pub ticks-made : s.rows ≡ leg.config.ticks → s.ticks ≡ leg.config.ticks
  ticks-made taken =
      let (low, high) = counts-within leg s can walked in
      omega arith

-- ---- as many frames are accepted as the totals say
frame-counted : (leg : Leg) (item : Numbered) (why : Option Refusal) (kind : ItemKind) →
    length (frame_by why kind) ≡ (if is_client kind && is_none why then 1 else 0)
frame-counted leg item None (Frame octets) = refl
frame-counted leg item None (Add line) = refl
frame-counted leg item None (Remove line) = refl
frame-counted leg item (Some why) (Frame octets) = refl
frame-counted leg item (Some why) (Add line) = refl
frame-counted leg item (Some why) (Remove line) = refl

frames-counted : (leg : Leg) (items : List Numbered) →
    length (filter (is_accepted_frame leg) items) ≡ length
    (flat_map (λ item. frame_by (refusal_at leg item) item.item.kind) items)
frames-counted leg [] = refl
frames-counted leg (item ∷ items) =
    let own : List (List ℕ) = frame_by (refusal_at leg item) item.item.kind in
    let one = frame-counted leg item (refusal_at leg item) item.item.kind in
    let rest = frames-counted leg items in
    let sum = length-append own (flat_map (λ (item : Numbered). frame_by (refusal_at leg item) item.item.kind) items)
    in
    elim (cases_Bool (is_accepted_frame leg item)) [
      | inl e ↦ let size : length own ≡ 1 = one ∙ ap (λ c. if c then 1 else 0) e in rw e (omega arith)
      | inr e ↦ let size : length own ≡ 0 = one ∙ ap (λ c. if c then 1 else 0) e in rw e (omega arith)
    ]

module _ (leg : Leg) (s : Counts) (sound : IsSound leg) (walked : IsWalked leg s) where
  end : Counts
  end = drained leg s

  end-walked : IsWalked leg (drained leg s)
  end-walked = drains-walked leg s _ walked

  pub drained-ticks : (drained leg s).ticks ≡ leg.config.ticks
  drained-ticks = ticks-made leg (drained leg s) sound end-walked
      (drain-ends leg s (sound-walks leg sound) walked)

  pub drained-landed : landed_items leg (drained leg s) ≡ numbered 0 leg.items
  drained-landed = items-landed leg (drained leg s) sound end-walked drained-ticks

  pub drained-accepted : (totals_of leg (drained leg s)).frames ≡ length (accepted_frames leg)
  drained-accepted = ap (λ items. length (filter (is_accepted_frame leg) items)) drained-landed
      ∙ frames-counted leg (numbered 0 leg.items)

  pub drained-report : report_of leg (drained leg s) ≡ final_report leg
  drained-report =
      let rows : (drained leg s).rows ≡ leg.config.ticks =
      drain-ends leg s (sound-walks leg sound) walked in
      ap (λ ticks. report_among leg ticks (drained leg s).rows (landed_items leg (drained leg s)))
      drained-ticks
      ∙ ap (λ n. report_among leg leg.config.ticks n (landed_items leg (drained leg s))) rows
      ∙ ap (report_among leg leg.config.ticks leg.config.ticks) drained-landed
