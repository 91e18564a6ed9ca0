-- A group stays bound to its leg (IsBound) by submits and ticks, and what of the leg has landed and is left.
use Rattle.std.proofs.Common.{◌≡◌, ℕ, zero, suc, ◌+◌, ◌-◌, ◌≤◌, Bool, true, false, if◌then◌else◌, not, ◌&&◌, List, []}
use Rattle.std.proofs.Common.{◌∷◌, ◌++◌, filter, take, drop, length, slice_get, get_or, All, Option, Some, is_none}
use Rattle.std.proofs.Common.{option_map, inl, inr, refl, sym, ◌∙◌, ap, subst, arith, flat_map, take-take, get_or-drop}
use Rattle.std.proofs.Common.{length-drop, ◌<◌, nat_lt, nat_le, None, ltb-false, eqb-true, append-nil}
use Rattle.std.specs.List.Sorted.{IsNonDecreasingBy}
use Rattle.std.proofs.Math.Logic.{∥∥₁_map, ∥∥₁_elim}
use Rattle.std.proofs.Props.{props}
use Rattle.std.proofs.lemmas.Bool.{cases_Bool}
use Rattle.std.proofs.lemmas.Option.{slice_get_within, slice_get-map, slice_get-get_or, get_or_from_slice_get}
use Rattle.law_model.proofs.ListLaws.{slice_get-inside, All-front, All-after}
use Rattle.law_model.specs.Common.{Container, BackCell, Leg, Scenario, DueCommand, DueFrame, scenario_by, orders_of}
use Rattle.law_model.specs.Common.{offers_of, steps_in, with_items, container_of, containers_of, dues_of, frame_dues}
use Rattle.law_model.specs.Common.{command_dues, used_in, Told, order_of, Counts}
use Rattle.law_model.specs.declared.script_types.Item.{Item}
use Rattle.law_model.specs.declared.item_refusals.Refusal.{Refusal}
use Rattle.law_session.specs.ReturnedCells.{AgreeBefore}
use Rattle.law_session.proofs.ClientStreamAndReplayLaws.{Alike}
use Rattle.thread_rings.specs.EndsOfRing.{OutEnd, InEnd, out_passed, in_passed, SameIn}
use Rattle.thread_rings.proofs.SameRingEndsLaws.{out-then, in-then}
use Rattle.terminal_source.specs.source_core.GivenScenario.{ComesAlike, SourceStands as HasMade}
use Rattle.terminal_source.proofs.SourceTerminalScenarioLaws.{alike-landed, first-alike}
use Rattle.law_walk.specs.Common.{Numbered, is_client, landed_from, landed_items, landed_scenario, refused_by}
use Rattle.law_walk.specs.Common.{IsPlaced, IsOfferAt, IsOrderAt}
use Rattle.law_walk.proofs.LandedItemRefusalAndTotalLaws.{frame-dues, command-dues, IsInserted, placed, offer-at}
use Rattle.law_walk.proofs.LandedItemRefusalAndTotalLaws.{order-at}
use Rattle.thread_group.specs.declared.group_answers.TickAnswer.{TickAnswer}
use Rattle.thread_group.specs.declared.group_answers.TickAnswer.TheVariants.{Ticked, Held, TxFull, BackMissing, Done}
use Rattle.thread_group.specs.declared.group_state.GroupState.{GroupState}
use Rattle.thread_group.specs.Journal.{of_client, of_operator, entry_of, fits}
use Rattle.terminal_group.specs.ReturnInbox.{told_from, told_taken}
use Rattle.thread_group.specs.GroupRings.{SameOuts, SameIns}
use Rattle.thread_group.specs.GroupParts.{AreSent, ArePast}
use Rattle.thread_group.specs.Group.{IsOf, SameScript, is_ticked, lines_of, lag_of, lost_of, items_of, ticks_of}
use Rattle.thread_group.specs.Group.{frames_of, commands_of, slots_of, bytes_of, taken_of, source_of, counted_by}
use Rattle.thread_group.specs.Group.{HasCounted, parts_of, next_of, refusal_of, is_number, fault_met, fault_in}
use Rattle.thread_group.specs.Group.{journal_of, refusals_of, entries_by, with_landed, room_for}
use Rattle.thread_group.specs.GroupCalls.{Ticks, Submits}
use Rattle.thread_group.specs.GroupOfLeg.{counts_of, refusal_by, refusals_by, accepted_frames_by, accepted_commands_by}
use Rattle.thread_group.specs.GroupOfLeg.{octets_in, AreItemsOf, HasLandedOf, IsBound, IsItemOf, HasJournalRoom}
use Rattle.terminal_group.proofs.ItemPlaceAndHeldItemLaws.{bare-dues}
use Rattle.terminal_group.proofs.InboxReturnCellLaws.{taken-more}
use Rattle.thread_group.proofs.JournalEntryAndScenarioLaws.{alike-cells, refusal-alike, container-alike, sent-alike}
use Rattle.thread_group.proofs.JournalEntryAndScenarioLaws.{sent-next, push-cases, frames-next, commands-next}
use Rattle.thread_group.proofs.JournalEntryAndScenarioLaws.{landed-in-order}
use Rattle.law_model.specs.declared.script_types.ItemKind.{ItemKind}
use Rattle.std.proofs.lemmas.Bool.Decides.{nat_tests}
use Rattle.std.proofs.lemmas.List.Elements.{All-cons, All-append}
use Rattle.thread_group.specs.declared.group_answers.SubmitFault.{SubmitFault}
use Rattle.thread_group.specs.SubmitFaults.{fault_of, has_landed, is_full, refusal_told}
use Rattle.std.proofs.lemmas.List.Sums.{sum_by-drop_more}
use Rattle.law_model.specs.declared.script_types.ItemKind.TheVariants.{Frame, Add, Remove}
use Rattle.law_model.specs.declared.lcas_states.Command.TheVariants.{Add as add, Remove as remove}
use Rattle.law_model.specs.declared.item_refusals.Refusal.TheVariants.{Frame as frame_refused}
use Rattle.law_model.specs.declared.item_refusals.Refusal.TheVariants.{Command as command_refused}
use Rattle.terminal_group.specs.Item.{size_of as octet_count}
use Rattle.std.specs.Global.{Vec}
use Rattle.terminal_group.specs.Landed.{next_number, due_at}
use Rattle.terminal_group.specs.GivenItem.{with_kind}
use Rattle.terminal_group.proofs.RefusalOrderAndNextItemLaws.{placed-same}
use Rattle.terminal_group.proofs.LandingLegItemLaws.{due-now, next-there, next-counts, offer-here, order-here}
use Rattle.terminal_group.proofs.LandingLegItemLaws.{met-item, leaves}
use Rattle.thread_group.proofs.SubmitAndTickAnswerLaws.{refused-is, fault_by, met_in}

-- ---- A tick leaves a group bound to its session.
-- ---- lists of items by which something is the same
pub same-each : {Y : Type 0} (f g : Numbered → List Y) (items : List Numbered) →
    ((i : ℕ) (item : Numbered) → slice_get items i ≡ Some item → f item ≡ g item) → flat_map f items ≡ flat_map g items
same-each f g [] each = refl
same-each f g (item ∷ items) each =
    ap (λ l. l ++ flat_map f items) (each 0 item refl)
    ∙ ap (λ l. g item ++ l) (same-each f g items (λ i other there. each (suc i) other there))

pub same-filter : (p q : Numbered → Bool) (items : List Numbered) →
    ((i : ℕ) (item : Numbered) → slice_get items i ≡ Some item → p item ≡ q item) → filter p items ≡ filter q items
same-filter p q [] each = refl
same-filter p q (item ∷ items) each =
    ap (λ b. if b then item ∷ filter p items else filter p items) (each 0 item refl)
    ∙ ap (λ l. if q item then item ∷ l else l) (same-filter p q items (λ i other there. each (suc i) other there))

-- ---- the same leg, and the same ends
pub of-then : (leg : Leg) (a b : GroupState) → IsOf leg a → SameScript a b → IsOf leg b
of-then leg a b is same = record {
  lines = same.lines ∙ is.lines;
  lag = same.lag ∙ is.lag;
  size = same.size ∙ is.size;
  statuses = same.statuses ∙ is.statuses;
  total = same.total ∙ is.total;
  lost = same.lost ∙ is.lost;
  items = same.items ∙ is.items;
}

pub outs-then : (a b d : List (OutEnd Container)) → SameOuts a b → SameOuts b d → SameOuts a d
outs-then a b d s t = record {
  count = t.count ∙ s.count;
  each = λ m old new was is.
      let inside = slice_get_within a m old was in
      let count = s.count in
      let (mid, there) = slice_get-inside b m (omega arith) in
      out-then old mid new (s.each m old mid was there) (t.each m mid new there is);
}

pub ins-then : (ends : List (InEnd BackCell)) (a b : InEnd BackCell) → SameIns ends (a ∷ []) → SameIn a b →
    SameIns ends (b ∷ [])
ins-then ends a b s same = record { count = s.count; each = λ m old new was is. by_place m old new was is } where
  by_place : (m : ℕ) (old new : InEnd BackCell) → slice_get ends m ≡ Some old → slice_get (b ∷ []) m ≡ Some new →
      SameIn old new
  by_place zero old new was is = subst (SameIn old) (let e : b ≡ new = cc in e)
      (in-then old a b (s.each zero old a was refl) same)
  by_place (suc m) old new was is = absurd cc

-- ---- the last tick
ticked-is : (answer : TickAnswer) → is_ticked answer ≡ true → answer ≡ Ticked
ticked-is Ticked e = refl
ticked-is (Held item) e = absurd cc
ticked-is (TxFull line) e = absurd cc
ticked-is (BackMissing packet) e = absurd cc
ticked-is Done e = absurd cc

module _ (leg : Leg) (a b : GroupState) (answer : TickAnswer) (of_script : IsOf leg a)
    (has : HasLandedOf leg a) (call : Ticks a b answer) where
  abbrev session : Scenario
  session = scenario_by leg

  agree : AgreeBefore (steps_in (ticks_of a) - leg.config.lag) (taken_of a) (taken_of b)
  agree =
      let ticks = call.ticks in
      let lag = call.script.lag in
      let u : ℕ = used_in (lag_of a) (ticks_of a) in
      let more : used_in (lag_of a) (ticks_of a) ≤ used_in (lag_of b) (ticks_of b) = omega arith in
      let n : steps_in (ticks_of a) - leg.config.lag ≡ used_in (lag_of a) (ticks_of a) =
      ap (λ l. steps_in (ticks_of a) - l) (sym of_script.lag) in
      let first : take u (taken_of a) ≡ taken_of a =
      take-take u u (told_from (lost_of a) (in_passed a.back)) (omega arith) in
      let second : take u (taken_of b) ≡ taken_of a =
      take-take u (used_in (lag_of b) (ticks_of b)) (told_from (lost_of b) (in_passed b.back)) more
      ∙ ap (λ l. take u (told_from l (in_passed b.back))) call.script.lost
      ∙ ap (λ l. take u (told_from (lost_of a) l)) (sym call.received.1)
      ∙ taken-more (lost_of a) (lag_of a) (ticks_of a) (in_passed a.back) call.received.0 a.keeps.come.within in
      ap (λ k. take k (taken_of a)) n ∙ first ∙ sym second ∙ sym (ap (λ k. take k (taken_of b)) n)

  alike : Alike session (taken_of a) session (taken_of b) (ticks_of a)
  alike = alike-cells session (taken_of a) (taken_of b) (ticks_of a) agree

  refusal-same : (item : Numbered) → item.item.due ≤ ticks_of a →
      refusal_by leg (taken_of a) item ≡ refusal_by leg (taken_of b) item
  refusal-same item low = refusal-alike session (taken_of a) session (taken_of b) (ticks_of a) item.item.due
      (take item.number leg.items) item.item.kind alike low

  landed-same : landed_items leg (counts_of b) ≡ landed_items leg (counts_of a)
  landed-same = ap (λ n. landed_from n (commands_of b) 0 leg.items) call.landed.frames
      ∙ ap (λ n. landed_from (frames_of a) n 0 leg.items) call.landed.commands

  scenario-same : landed_scenario leg (counts_of b) ≡ landed_scenario leg (counts_of a)
  scenario-same =
      ap (λ n. with_items session (take (commands_of b) (orders_of leg.items)) (take n (offers_of leg.items)))
      call.landed.frames
      ∙ ap (λ n. with_items session (take n (orders_of leg.items)) (take (frames_of a) (offers_of leg.items)))
      call.landed.commands

  windows : lines_of a ≡ length leg.config.windows
  windows = ∥∥₁_elim has.made (hlevel props) (λ made. made.lines)

  -- the session of what has landed is the leg's, up to the ticks made
  offers-late : All (λ (offer : DueFrame). ticks_of b ≤ offer.due) (drop (frames_of a) (offers_of leg.items))
  offers-late k d inside =
      let n : ℕ = frames_of a + k in
      let size = length-drop (frames_of a) (offers_of leg.items) in
      let frames = call.landed.frames in
      let here : slice_get (frame_dues (dues_of (items_of b))) n ≡ Some (get_or (offers_of leg.items) n d).due =
      ap (λ (l : List Item). slice_get (frame_dues (dues_of l)) n) (call.script.items ∙ of_script.items)
      ∙ ap (λ l. slice_get (frame_dues l) n) (bare-dues leg.items)
      ∙ ap (λ l. slice_get l n) (frame-dues leg.items)
      ∙ slice_get-map (λ (offer : DueFrame). offer.due) (offers_of leg.items) n
      ∙ ap (option_map (λ (offer : DueFrame). offer.due)) (slice_get-get_or (offers_of leg.items) n d (omega arith))
      in
      let late = b.keeps.ahead.of_frames n (get_or (offers_of leg.items) n d).due (omega arith) here in
      subst (λ (offer : DueFrame). ticks_of b ≤ offer.due)
      (sym (get_or-drop (frames_of a) (offers_of leg.items) k d)) late

  orders-late : All (λ (order : DueCommand). ticks_of b ≤ order.due) (drop (commands_of a) (orders_of leg.items))
  orders-late k d inside =
      let n : ℕ = commands_of a + k in
      let size = length-drop (commands_of a) (orders_of leg.items) in
      let commands = call.landed.commands in
      let here : slice_get (command_dues (dues_of (items_of b))) n ≡ Some (get_or (orders_of leg.items) n d).due =
      ap (λ (l : List Item). slice_get (command_dues (dues_of l)) n) (call.script.items ∙ of_script.items)
      ∙ ap (λ l. slice_get (command_dues l) n) (bare-dues leg.items)
      ∙ ap (λ l. slice_get l n) (command-dues leg.items)
      ∙ slice_get-map (λ (order : DueCommand). order.due) (orders_of leg.items) n
      ∙ ap (option_map (λ (order : DueCommand). order.due))
      (slice_get-get_or (orders_of leg.items) n d (omega arith)) in
      let late = b.keeps.ahead.of_commands n (get_or (orders_of leg.items) n d).due (omega arith) here in
      subst (λ (order : DueCommand). ticks_of b ≤ order.due)
      (sym (get_or-drop (commands_of a) (orders_of leg.items) k d)) late

  comes : ComesAlike (landed_scenario leg (counts_of a)) session (ticks_of b)
  comes = first-alike session (commands_of a) (frames_of a) (ticks_of b) orders-late offers-late

  before : (m : ℕ) (old : OutEnd Container) → slice_get a.tx.items m ≡ Some old →
      out_passed old ≡ containers_of session (taken_of b) m (ticks_of a)
  before m old was =
      let inside = slice_get_within a.tx.items m old was in
      let rings = a.keeps.rings in
      let lines = windows in
      has.sent m old was ∙ sent-alike session (taken_of a) session (taken_of b) (ticks_of a) m alike (omega arith)

  sent-still : is_ticked answer ≡ false → AreSent session (taken_of b) (ticks_of b) b.tx.items
  sent-still none m new there =
      let inside = slice_get_within b.tx.items m new there in
      let count = call.sends.count in
      let (old, was) = slice_get-inside a.tx.items m (omega arith) in
      let ticks : ticks_of b ≡ ticks_of a = call.ticks ∙ ap (λ b_. ticks_of a + (if b_ then 1 else 0)) none
      ∙ (let e : ticks_of a + 0 ≡ ticks_of a = omega arith in e) in
      call.rest (λ e. absurd (let f : false ≡ true = sym none ∙ ap is_ticked e in cc)) m old new was there
      ∙ before m old was
      ∙ ap (containers_of session (taken_of b) m) (sym ticks)

  sent-on : is_ticked answer ≡ true → AreSent session (taken_of b) (ticks_of b) b.tx.items
  sent-on went m new there =
      let inside = slice_get_within b.tx.items m new there in
      let count = call.sends.count in
      let (old, was) = slice_get-inside a.tx.items m (omega arith) in
      let rings = a.keeps.rings in
      let lines = windows in
      let ticks : ticks_of b ≡ ticks_of a + 1 = call.ticks ∙ ap (λ b_. ticks_of a + (if b_ then 1 else 0)) went in
      let pushed : out_passed new ≡ out_passed old ++ container_of (landed_scenario leg (counts_of a)) (taken_of b) m
      (ticks_of a) ∷ [] =
      ∥∥₁_elim has.made (hlevel props)
      (λ made. call.alike (landed_scenario leg (counts_of a)) (ticked-is answer went) made m old new was there)
      in
      let landed = alike-landed _ session (taken_of b) (taken_of b) (ticks_of b) comes refl in
      let same = container-alike _ _ session _ _ m (ticks_of a) landed (omega arith) (omega arith) in
      pushed ∙ ap (λ (l : List Container). l ++ container_of (landed_scenario leg (counts_of a)) (taken_of b) m
      (ticks_of a) ∷ []) (before m old was)
      ∙ ap (λ (c : Container). containers_of session (taken_of b) m (ticks_of a) ++ c ∷ []) same
      ∙ sym (ap (containers_of session (taken_of b) m) ticks ∙ sent-next session (taken_of b) m (ticks_of a))

  pub landed-ticks : HasLandedOf leg b
  landed-ticks =
      let items : List Numbered = landed_items leg (counts_of a) in
      record {
        entries = subst (AreItemsOf leg) (sym call.landed.journal) has.entries;
        most_frames = omega (arith, has.most_frames, call.landed.frames);
        most_commands = omega (arith, has.most_commands, call.landed.commands);
        past = subst (ArePast (ticks_of b)) (sym landed-same)
            (λ i item there. let low = has.past i item there in let ticks = call.ticks in omega arith);
        refusals = call.landed.refusals ∙ has.refusals
            ∙ same-each (λ item. refused_by item.number (refusal_by leg (taken_of a) item))
            (λ item. refused_by item.number (refusal_by leg (taken_of b) item)) items
            (λ i item there. ap (refused_by item.number) (refusal-same item (has.past i item there)))
            ∙ sym (ap (refusals_by leg (taken_of b)) landed-same);
        frames = ap of_client call.landed.journal ∙ has.frames
            ∙ same-filter (λ item. is_client item.item.kind && is_none (refusal_by leg (taken_of a) item))
            (λ item. is_client item.item.kind && is_none (refusal_by leg (taken_of b) item)) items
            (λ i item there. ap (λ (why : Option Refusal). is_client item.item.kind && is_none why)
            (refusal-same item (has.past i item there)))
            ∙ sym (ap (accepted_frames_by leg (taken_of b)) landed-same);
        commands = ap of_operator call.landed.journal ∙ has.commands
            ∙ same-filter (λ item. not (is_client item.item.kind) && is_none (refusal_by leg (taken_of a) item))
            (λ item. not (is_client item.item.kind) && is_none (refusal_by leg (taken_of b) item)) items
            (λ i item there. ap (λ (why : Option Refusal). not (is_client item.item.kind) && is_none why)
            (refusal-same item (has.past i item there)))
            ∙ sym (ap (accepted_commands_by leg (taken_of b)) landed-same);
        order = subst (IsNonDecreasingBy (λ (entry : Numbered). entry.item.due)) (sym call.landed.journal) has.order;
        sent = elim (cases_Bool (is_ticked answer)) [ inl e ↦ sent-on e | inr e ↦ sent-still e ];
        made = ∥∥₁_map has.made (λ made. subst (λ (s : Scenario). HasMade (source_of b) s (taken_of b))
            (sym scenario-same) (call.made (landed_scenario leg (counts_of a)) made));
      }

pub bound-ticks : (leg : Leg) (tx : List (OutEnd Container)) (back : List (InEnd BackCell)) (a b : GroupState)
    (answer : TickAnswer) → IsBound leg tx back a → Ticks a b answer → IsBound leg tx back b
bound-ticks leg tx back a b answer is call =
    let frames = call.landed.frames in
    let commands = call.landed.commands in
    let slots = call.landed.slots in
    let bytes = call.landed.bytes in
    let entries = is.room.entries in
    let octets = is.room.octets in
    record {
      of_script = of-then leg a b is.of_script call.script;
      sends = outs-then tx a.tx.items b.tx.items is.sends call.sends;
      returns = ins-then back a.back b.back is.returns call.returns;
      room = record {
        entries = subst (λ n. length (drop n (offers_of leg.items)) + length
            (drop (commands_of b) (orders_of leg.items)) ≤ slots_of b) (sym frames)
            (subst (λ n. length (drop (frames_of a) (offers_of leg.items)) + length
            (drop n (orders_of leg.items)) ≤ slots_of b) (sym commands) (omega arith));
        octets = subst (λ n. octets_in (drop n (offers_of leg.items)) ≤ bytes_of b) (sym frames) (omega arith);
      };
      landed = landed-ticks leg a b answer is.of_script is.landed call;
    }

-- ---- No more lands of a leg than there is.
one-counted : (client : Bool) → counted_by client true + counted_by (not client) true ≡ 1
one-counted true = refl
one-counted false = refl

most-by : (offers orders frames commands frames' commands' one other : ℕ) → one + other ≡ 1 → frames' ≡ frames + one →
    commands' ≡ commands + other →
    (offers - frames) + (orders - commands) ≡ (offers - frames') + (orders - commands') + 1 → frames ≤ offers →
    commands ≤ orders → (frames' ≤ offers) × (commands' ≤ orders)
most-by offers orders frames commands frames' commands' one other sum more more' less most most' =
    (omega arith, omega arith)

-- an item has landed, and one less is left
pub most-next : (leg : Leg) (a b : GroupState) (kind : ItemKind) → HasLandedOf leg a →
    HasCounted a b kind true →
    length (drop (frames_of a) (offers_of leg.items)) + length (drop (commands_of a) (orders_of leg.items))
    ≡ length (drop (frames_of b) (offers_of leg.items)) + length (drop (commands_of b) (orders_of leg.items)) + 1
    →
    (frames_of b ≤ length (offers_of leg.items)) × (commands_of b ≤ length (orders_of leg.items))
most-next leg a b kind has counted less =
    let offers = length-drop (frames_of a) (offers_of leg.items) in
    let offers' = length-drop (frames_of b) (offers_of leg.items) in
    let orders = length-drop (commands_of a) (orders_of leg.items) in
    let orders' = length-drop (commands_of b) (orders_of leg.items) in
    most-by (length (offers_of leg.items)) (length (orders_of leg.items)) (frames_of a) (commands_of a) _ _
    (counted_by (is_client kind) true) (counted_by (not (is_client kind)) true) (one-counted (is_client kind))
    counted.frames counted.commands (omega arith) has.most_frames has.most_commands

-- ---- An item that lands leaves a group bound to its session.
-- ---- what holds of each of them, and of one more
pub inserted-all : (P : Numbered → Type 0) (item : Numbered) (was now : List Numbered) → IsInserted item was now →
    All P was → P item → All P now
inserted-all P item was now put all here =
    let parts : All P (put.front ++ put.back) = subst (All P) put.was_so all in
    subst (All P) (sym put.is_so)
    (All-append P put.front (item ∷ put.back) (All-front P put.front put.back parts)
    (All-cons P item put.back here (All-after P put.front put.back parts)))

-- ---- the item that lands
-- it is the leg's, and is due
pub item-here : (leg : Leg) (g : GroupState) (number : ℕ) (kind : ItemKind) → IsOf leg g →
    next_of g kind ≡ Some number → due_at (items_of g) number ≤ ticks_of g → IsItemOf leg number kind →
    slice_get leg.items number ≡ Some (record { due = ticks_of g; kind = kind })
item-here leg g number kind of_script next due is_item =
    due-now leg.items g.landing of_script.items (is_client kind) number (ticks_of g) kind next due
    g.keeps.ahead is_item

pub offer-next : (leg : Leg) (g : GroupState) (number : ℕ) (octets : List ℕ) → IsOf leg g →
    next_number g.landing true ≡ Some number →
    slice_get leg.items number ≡ Some (record { due = ticks_of g; kind = Frame octets }) →
    IsOfferAt leg.items (frames_of g) (entry_of number (ticks_of g) (Frame octets))
    (record { due = ticks_of g; frame = octets })
offer-next leg g number octets of_script next here =
    offer-here leg.items (frames_of g) number (ticks_of g) octets
    (next-there leg.items g.landing of_script.items true number next).0 here

pub order-next : (leg : Leg) (g : GroupState) (number : ℕ) (kind : ItemKind) (order : DueCommand) →
    IsOf leg g → next_number g.landing false ≡ Some number →
    order_of (ticks_of g) kind ≡ order ∷ [] → slice_get leg.items number ≡ Some
    (record { due = ticks_of g; kind = kind }) →
    IsOrderAt leg.items (commands_of g) (entry_of number (ticks_of g) kind) order
order-next leg g number kind order of_script next is here =
    order-here leg.items (commands_of g) number (ticks_of g) kind order
    (next-there leg.items g.landing of_script.items false number next).0 is here

-- as many of its kind are before it as have landed
offers-before : (leg : Leg) (g : GroupState) (number : ℕ) (kind : ItemKind) → IsOf leg g →
    next_of g kind ≡ Some number → slice_get leg.items number ≡ Some (record { due = ticks_of g; kind = kind }) →
    is_client kind ≡ true → length (offers_of (take number leg.items)) ≡ frames_of g
offers-before leg g number (Frame octets) of_script next here client =
    (offer-next leg g number octets of_script next here).before
offers-before leg g number (Add line) of_script next here client = absurd cc
offers-before leg g number (Remove line) of_script next here client = absurd cc

orders-before : (leg : Leg) (g : GroupState) (number : ℕ) (kind : ItemKind) → IsOf leg g →
    next_of g kind ≡ Some number → slice_get leg.items number ≡ Some (record { due = ticks_of g; kind = kind }) →
    is_client kind ≡ false → length (orders_of (take number leg.items)) ≡ commands_of g
orders-before leg g number (Frame octets) of_script next here operator = absurd cc
orders-before leg g number (Add line) of_script next here operator =
    (order-next leg g number (Add line) (record { due = ticks_of g; command = add line }) of_script next refl
    here).before
orders-before leg g number (Remove line) of_script next here operator =
    (order-next leg g number (Remove line) (record { due = ticks_of g; command = remove line }) of_script next refl
    here).before

-- ---- why it is refused
pub refusal-item : (leg : Leg) (g : GroupState) (number : ℕ) (kind : ItemKind) → IsOf leg g →
    HasLandedOf leg g → next_of g kind ≡ Some number →
    slice_get leg.items number ≡ Some (record { due = ticks_of g; kind = kind }) →
    refusal_of g kind ≡ refusal_by leg (taken_of g) (entry_of number (ticks_of g) kind)
refusal-item leg g number kind of_script has next here =
    sym (refused-is g kind) ∙ ∥∥₁_elim has.made (hlevel props)
    (λ made. met-item leg (counts_of g) g.landing (source_of g) (taken_of g) number kind of_script.items
    g.keeps.ahead made next here)

-- ---- what has landed with it, and what is left
pub record Next (leg : Leg) (a b : GroupState) (number : ℕ) (kind : ItemKind) : Type 0 where
  pub inserted : IsInserted (entry_of number (ticks_of a) kind) (landed_items leg (counts_of a))
      (landed_items leg (counts_of b))
  pub scenario : with_kind (landed_scenario leg (counts_of a)) (ticks_of a) kind ≡ landed_scenario leg
      (counts_of b)
  pub octets : octets_in (drop (frames_of a) (offers_of leg.items)) ≡ octet_count kind + octets_in
      (drop (frames_of b) (offers_of leg.items))
  pub entries : length (drop (frames_of a) (offers_of leg.items)) + length
      (drop (commands_of a) (orders_of leg.items))
      ≡ length (drop (frames_of b) (offers_of leg.items)) + length
      (drop (commands_of b) (orders_of leg.items)) + 1

less-by : (n m size : ℕ) → n < size → m ≡ n + 1 → size - n ≡ size - m + 1
less-by n m size low e = omega arith

-- the octets and the items that are left
abbrev Left : Leg → GroupState → GroupState → ItemKind → Type 0
Left leg a b kind =
    (octets_in (drop (frames_of a) (offers_of leg.items)) ≡ octet_count kind + octets_in
    (drop (frames_of b) (offers_of leg.items)))
    × (length (drop (frames_of a) (offers_of leg.items)) + length (drop (commands_of a) (orders_of leg.items))
    ≡ length (drop (frames_of b) (offers_of leg.items)) + length
    (drop (commands_of b) (orders_of leg.items)) + 1)

left-frame : (leg : Leg) (a b : GroupState) (octets : List ℕ) →
    slice_get (offers_of leg.items) (frames_of a) ≡ Some (record { due = ticks_of a; frame = octets }) →
    frames_of b ≡ frames_of a + 1 → commands_of b ≡ commands_of a → Left leg a b (Frame octets)
left-frame leg a b octets there frames commands =
    let offer : DueFrame = record { due = ticks_of a; frame = octets } in
    let inside = slice_get_within (offers_of leg.items) (frames_of a) offer there in
    let one = length-drop (frames_of a) (offers_of leg.items) in
    let two = length-drop (frames_of b) (offers_of leg.items) in
    let step = less-by (frames_of a) (frames_of b) (length (offers_of leg.items)) inside frames in
    let same : length (drop (commands_of a) (orders_of leg.items)) ≡ length
    (drop (commands_of b) (orders_of leg.items)) = ap (λ n. length (drop n (orders_of leg.items)))
    (sym commands) in (
      sum_by-drop_more (λ (o : DueFrame). length o.frame) (offers_of leg.items) (frames_of a) offer inside
          ∙ ap (λ (o : DueFrame). length o.frame + octets_in (drop (frames_of a + 1) (offers_of leg.items)))
          (get_or_from_slice_get (offers_of leg.items) (frames_of a) offer offer there)
          ∙ ap (λ n. length octets + octets_in (drop n (offers_of leg.items))) (sym frames),
      omega arith,
    )

left-command : (leg : Leg) (a b : GroupState) (kind : ItemKind) (order : DueCommand) →
    slice_get (orders_of leg.items) (commands_of a) ≡ Some order → octet_count kind ≡ 0 →
    frames_of b ≡ frames_of a → commands_of b ≡ commands_of a + 1 → Left leg a b kind
left-command leg a b kind order there none frames commands =
    let inside = slice_get_within (orders_of leg.items) (commands_of a) order there in
    let one = length-drop (commands_of a) (orders_of leg.items) in
    let two = length-drop (commands_of b) (orders_of leg.items) in
    let step = less-by (commands_of a) (commands_of b) (length (orders_of leg.items)) inside commands in
    let same : length (drop (frames_of a) (offers_of leg.items)) ≡ length
    (drop (frames_of b) (offers_of leg.items)) = ap (λ n. length (drop n (offers_of leg.items))) (sym frames) in
    let octets : octets_in (drop (frames_of a) (offers_of leg.items)) ≡ octets_in
    (drop (frames_of b) (offers_of leg.items)) = ap (λ n. octets_in (drop n (offers_of leg.items)))
    (sym frames) in
    (let h = octets in omega arith, omega arith)

left-next : (leg : Leg) (a b : GroupState) (number : ℕ) (kind : ItemKind) → IsOf leg a →
    next_of a kind ≡ Some number → slice_get leg.items number ≡ Some (record { due = ticks_of a; kind = kind }) →
    HasCounted a b kind true → Left leg a b kind
left-next leg a b number (Frame octets) of_script next here counted =
    left-frame leg a b octets (offer-at _ _ _ _ (offer-next leg a number octets of_script next here)).0
    counted.frames (counted.commands ∙ (let e : commands_of a + 0 ≡ commands_of a = omega arith in e))
left-next leg a b number (Add line) of_script next here counted =
    let order : DueCommand = record { due = ticks_of a; command = add line } in
    left-command leg a b (Add line) order (order-at leg.items (commands_of a) _ order
    (order-next leg a number (Add line) order of_script next refl here)).0 refl
    (counted.frames ∙ (let e : frames_of a + 0 ≡ frames_of a = omega arith in e)) counted.commands
left-next leg a b number (Remove line) of_script next here counted =
    let order : DueCommand = record { due = ticks_of a; command = remove line } in
    left-command leg a b (Remove line) order (order-at leg.items (commands_of a) _ order
    (order-next leg a number (Remove line) order of_script next refl here)).0 refl
    (counted.frames ∙ (let e : frames_of a + 0 ≡ frames_of a = omega arith in e)) counted.commands

counted-one : (client : Bool) → counted_by client true ≡ (if client then 1 else 0)
counted-one true = refl
counted-one false = refl

counted-other : (client : Bool) → counted_by (not client) true ≡ (if client then 0 else 1)
counted-other true = refl
counted-other false = refl

pub next-of : (leg : Leg) (a b : GroupState) (number : ℕ) (kind : ItemKind) → IsOf leg a →
    next_of a kind ≡ Some number → slice_get leg.items number ≡ Some (record { due = ticks_of a; kind = kind }) →
    HasCounted a b kind true → Next leg a b number kind
next-of leg a b number kind of_script next here counted =
    let at = (next-there leg.items a.landing of_script.items (is_client kind) number next).0 in
    let with_it = leaves leg (counts_of a) a.landing number (ticks_of a) kind at here in
    let same = next-counts (is_client kind) (counts_of a) a.landing (frames_of b) (commands_of b)
    (counted.frames ∙ ap (λ n. frames_of a + n) (counted-one (is_client kind)))
    (counted.commands ∙ ap (λ n. commands_of a + n) (counted-other (is_client kind))) in
    let less = left-next leg a b number kind of_script next here counted in
    record {
      inserted = subst (λ (c : Counts). IsInserted (entry_of number (ticks_of a) kind)
          (landed_items leg (counts_of a)) (landed_items leg c)) same with_it.inserted;
      scenario = with_it.scenario ∙ ap (landed_scenario leg) same;
      octets = less.0;
      entries = less.1;
    }

-- ---- what an answer tells
number-is : (next : Option ℕ) (number : ℕ) → is_number next number ≡ true → next ≡ Some number
number-is None number e = absurd cc
number-is (Some n) number e = ap Some (eqb-true n number e)

asks-by : (next : Option ℕ) (number ticks due : ℕ) (rest : Option SubmitFault) →
    has_landed (fault_by next number ticks due rest) ≡ true →
    (next ≡ Some number) × (due ≤ ticks) × (fault_by next number ticks due rest ≡ rest)
asks-by next number ticks due rest h =
    elim (cases_Bool (is_number next number)) [
      | inr other ↦ absurd (let f : false ≡ true = rw other at h in cc)
      | inl same ↦ elim (cases_Bool (nat_lt ticks due)) [
        | inl early ↦ absurd (let f : false ≡ true = rw (same, early) at h in cc)
        | inr late ↦ (number-is next number same, ltb-false ticks due late, rw (same, late) refl)
      ]
    ]

landed-met : (why : Option Refusal) (fits : Bool) (slots bytes : ℕ) → has_landed (fault_met why fits slots bytes)
    ≡ true → fault_met why fits slots bytes ≡ option_map fault_of why
landed-met (Some why) fits slots bytes h = refl
landed-met None true slots bytes h = refl
landed-met None false slots bytes h = absurd cc

full-by : (next : Option ℕ) (number ticks due : ℕ) (rest : Option SubmitFault) →
    is_full (fault_by next number ticks due rest) ≡ true → (next ≡ Some number) × (due ≤ ticks) × (is_full rest ≡ true)
full-by next number ticks due rest h =
    elim (cases_Bool (is_number next number)) [
      | inr other ↦ absurd (let f : false ≡ true = rw other at h in cc)
      | inl same ↦ elim (cases_Bool (nat_lt ticks due)) [
        | inl early ↦ absurd (let f : false ≡ true = rw (same, early) at h in cc)
        | inr late ↦ (number-is next number same, ltb-false ticks due late, rw (same, late) at h)
      ]
    ]

full-met : (why : Option Refusal) (fits : Bool) (slots bytes : ℕ) → is_full (fault_met why fits slots bytes) ≡ true →
    fits ≡ false
full-met (Some (frame_refused fault)) fits slots bytes h = absurd cc
full-met (Some (command_refused fault)) fits slots bytes h = absurd cc
full-met None true slots bytes h = absurd cc
full-met None false slots bytes h = refl

told-rest : (why : Option Refusal) → refusal_told (option_map fault_of why) ≡ why
told-rest None = refl
told-rest (Some (frame_refused fault)) = refl
told-rest (Some (command_refused fault)) = refl

-- ---- the journal has room
room-first : (leg : Leg) (g : GroupState) (number : ℕ) (kind : ItemKind) → IsOf leg g →
    next_of g kind ≡ Some number → slice_get leg.items number ≡ Some (record { due = ticks_of g; kind = kind }) →
    HasJournalRoom leg g →
    (0 < slots_of g) × (octet_count kind ≤ bytes_of g)
room-first leg g number (Frame octets) of_script next here room =
    let offer : DueFrame = record { due = ticks_of g; frame = octets } in
    let there = (offer-at leg.items _ _ offer (offer-next leg g number octets of_script next here)).0 in
    let inside = slice_get_within (offers_of leg.items) (frames_of g) offer there in
    let long = length-drop (frames_of g) (offers_of leg.items) in
    let entries = room.entries in
    let bytes = room.octets in
    let first = sum_by-drop_more (λ (o : DueFrame). length o.frame) (offers_of leg.items) (frames_of g) offer inside
    ∙ ap (λ (o : DueFrame). length o.frame + octets_in (drop (frames_of g + 1) (offers_of leg.items)))
    (get_or_from_slice_get (offers_of leg.items) (frames_of g) offer offer there) in
    (omega arith, omega arith)
room-first leg g number (Add line) of_script next here room =
    let order : DueCommand = record { due = ticks_of g; command = add line } in
    let there = (order-at _ _ _ _ (order-next leg g number (Add line) order of_script next refl here)).0 in
    let inside = slice_get_within (orders_of leg.items) (commands_of g) order there in
    let long = length-drop (commands_of g) (orders_of leg.items) in
    let entries = room.entries in
    (omega arith, omega arith)
room-first leg g number (Remove line) of_script next here room =
    let order : DueCommand = record { due = ticks_of g; command = remove line } in
    let there = (order-at _ _ _ _ (order-next leg g number (Remove line) order of_script next refl here)).0 in
    let inside = slice_get_within (orders_of leg.items) (commands_of g) order there in
    let long = length-drop (commands_of g) (orders_of leg.items) in
    let entries = room.entries in
    (omega arith, omega arith)

pub not-full : (leg : Leg) (g : GroupState) (number : ℕ) (kind : ItemKind) (answer : Option SubmitFault) →
    IsOf leg g → HasJournalRoom leg g → IsItemOf leg number kind → answer ≡ fault_in g number kind →
    is_full answer ≡ false
not-full leg g number kind answer of_script room is_item is =
    elim (cases_Bool (is_full answer)) [
      | inr none ↦ none
      | inl full ↦
          let (next, due, none) = full-by (next_of g kind) number (ticks_of g) (due_at (items_of g) number)
          (met_in g kind) (sym (ap is_full is) ∙ full) in
          let few = full-met (refusal_of g kind) (fits (parts_of g).journal kind) (slots_of g) (bytes_of g) none in
          let here = item-here leg g number kind of_script next due is_item in
          let (slots, bytes) = room-first leg g number kind of_script next here room in
          absurd (let f = fits-room (slots_of g) (bytes_of g) (octet_count kind) slots bytes in
          let e : true ≡ false = sym f ∙ few in cc)
    ]
  where
    fits-room : (slots bytes size : ℕ) → 0 < slots → size ≤ bytes → (nat_lt 0 slots && nat_le size bytes) ≡ true
    fits-room slots bytes size low high = grind (arith, nat_tests, low, high)

-- ---- what is bound after it
entries-next : (answer : Option SubmitFault) (leg : Leg) (was now : List Numbered) (number ticks : ℕ)
    (kind : ItemKind) → now ≡ was ++ entries_by answer number ticks kind → AreItemsOf leg was →
    slice_get leg.items number ≡ Some (record { due = ticks; kind = kind }) → AreItemsOf leg now
entries-next None leg was now number ticks kind same each here =
    subst (AreItemsOf leg) (sym same)
    (push-cases (λ i (entry : Numbered). slice_get leg.items entry.number ≡ Some entry.item) was
    (entry_of number ticks kind) each here)
entries-next (Some fault) leg was now number ticks kind same each here =
    subst (AreItemsOf leg) (sym (same ∙ append-nil was)) each

past-all : (ticks : ℕ) (items : List Numbered) → ArePast ticks items →
    All (λ (item : Numbered). item.item.due ≤ ticks) items
past-all ticks items past k d inside = past k (get_or items k d) (slice_get-get_or items k d inside)

all-past : (ticks : ℕ) (items : List Numbered) → All (λ (item : Numbered). item.item.due ≤ ticks) items →
    ArePast ticks items
all-past ticks items all i item there =
    subst (λ (one : Numbered). one.item.due ≤ ticks) (get_or_from_slice_get items i item item there)
    (all i item (slice_get_within items i item there))

module _ (leg : Leg) (a b : GroupState) (number : ℕ) (kind : ItemKind) (answer : Option SubmitFault)
    (of_script : IsOf leg a) (has : HasLandedOf leg a)
    (call : Submits a b number kind answer) (landed : has_landed answer ≡ true)
    (is_item : IsItemOf leg number kind) where
  abbrev entry : Numbered
  entry = entry_of number (ticks_of a) kind

  asks : (next_of a kind ≡ Some number) × (due_at (items_of a) number ≤ ticks_of a)
      × (answer ≡ option_map fault_of (refusal_of a kind))
  asks =
      let (next, due, same) = asks-by (next_of a kind) number (ticks_of a) (due_at (items_of a) number) (met_in a kind)
      (sym (ap has_landed call.fault) ∙ landed) in
      let met : answer ≡ met_in a kind = call.fault ∙ same in (
        next,
        due,
        met ∙ landed-met (refusal_of a kind) (fits (parts_of a).journal kind) (slots_of a) (bytes_of a)
            (sym (ap has_landed met) ∙ landed),
      )

  here : slice_get leg.items number ≡ Some (record { due = ticks_of a; kind = kind })
  here = item-here leg a number kind of_script asks.0 asks.1 is_item

  told : refusal_told answer ≡ refusal_by leg (taken_of a) (entry_of number (ticks_of a) kind)
  told = ap refusal_told asks.2 ∙ told-rest (refusal_of a kind)
      ∙ refusal-item leg a number kind of_script has asks.0 here

  pub next-is : Next leg a b number kind
  next-is = next-of leg a b number kind of_script asks.0 here (subst (HasCounted a b kind) landed call.landed)

  taken : taken_of b ≡ taken_of a
  taken =
      ap (λ l. told_taken l (lag_of b) (ticks_of b) (in_passed b.back)) call.script.lost
      ∙ ap (λ n. told_taken (lost_of a) n (ticks_of b) (in_passed b.back)) call.script.lag
      ∙ ap (λ n. told_taken (lost_of a) (lag_of a) n (in_passed b.back)) call.rings.ticks
      ∙ ap (λ (end_ : InEnd BackCell). told_taken (lost_of a) (lag_of a) (ticks_of a) (in_passed end_)) call.rings.back

  pub landed-submits : HasLandedOf leg b
  landed-submits =
      let put = next-is.inserted in
      let counted = subst (HasCounted a b kind) landed call.landed in
      let most = most-next leg a b kind has counted next-is.entries in
      let cells : List (Option Told) = taken_of a in
      record {
        entries = entries-next answer leg (journal_of a) (journal_of b) number
            (ticks_of a) kind call.journal has.entries here;
        past = subst (λ n. ArePast n (landed_items leg (counts_of b))) (sym call.rings.ticks)
            (all-past (ticks_of a) (landed_items leg (counts_of b))
            (inserted-all (λ (item : Numbered). item.item.due ≤ ticks_of a) entry _ _ put
            (past-all (ticks_of a) (landed_items leg (counts_of a)) has.past) (omega arith)));
        most_frames = most.0;
        most_commands = most.1;
        refusals = placed-same number (refused_by number (refusal_told answer)) (refusals_of a)
            (refusals_of b) (refusals_by leg cells (landed_items leg (counts_of b))) (call.refusals landed)
            (subst (λ (l : List (ℕ × Refusal)). IsPlaced number (refused_by number (refusal_told answer)) l
            (refusals_by leg cells (landed_items leg (counts_of b)))) (sym has.refusals)
            (subst (λ (w : Option Refusal). IsPlaced number (refused_by number w)
            (refusals_by leg cells (landed_items leg (counts_of a)))
            (refusals_by leg cells (landed_items leg (counts_of b)))) (sym told)
            (placed (refusal_by leg cells) entry (landed_items leg (counts_of a)) _ put)))
            ∙ sym (ap (λ c. refusals_by leg c (landed_items leg (counts_of b))) taken);
        frames = frames-next leg cells answer (journal_of a) (journal_of b) number (ticks_of a) kind landed call.journal
            told here (frames_of a) (commands_of a) (frames_of b) (commands_of b)
            (offers-before leg a number kind of_script asks.0 here) counted.frames has.frames
            ∙ sym (ap (λ c. accepted_frames_by leg c (landed_items leg (counts_of b))) taken);
        commands = commands-next leg cells answer (journal_of a) (journal_of b) number (ticks_of a) kind landed
            call.journal told here (frames_of a) (commands_of a) (frames_of b) (commands_of b)
            (orders-before leg a number kind of_script asks.0 here) counted.commands has.commands
            ∙ sym (ap (λ c. accepted_commands_by leg c (landed_items leg (counts_of b))) taken);
        order = landed-in-order answer (journal_of a) (journal_of b) number (ticks_of a) kind call.journal a.keeps.past
            has.order;
        sent = subst (λ (v : Vec (OutEnd Container)). AreSent (scenario_by leg) (taken_of b) (ticks_of b) v.items)
            (sym call.rings.tx)
            (subst (λ n. AreSent (scenario_by leg) (taken_of b) n a.tx.items) (sym call.rings.ticks)
            (subst (λ c. AreSent (scenario_by leg) c (ticks_of a) a.tx.items) (sym taken) has.sent));
        made = ∥∥₁_map has.made
            (λ made. subst (HasMade (source_of b) (landed_scenario leg (counts_of b))) (sym taken)
            (subst (λ (s : Scenario). HasMade (source_of b) s cells)
            (ap (λ b_. with_landed (landed_scenario leg (counts_of a)) (ticks_of a) kind b_) landed
            ∙ next-is.scenario)
            (call.made (landed_scenario leg (counts_of a)) cells made)));
      }

room-taken : (answer : Option SubmitFault) (n m size : ℕ) → m + room_for answer size ≡ n → n ≤ m + size
room-taken None n m size e = omega arith
room-taken (Some fault) n m size e = omega arith

pub bound-submits : (leg : Leg) (tx : List (OutEnd Container)) (back : List (InEnd BackCell)) (a b : GroupState)
    (number : ℕ) (kind : ItemKind) (answer : Option SubmitFault) →
    IsBound leg tx back a → Submits a b number kind answer → IsItemOf leg number kind → IsBound leg tx back b
bound-submits leg tx back a b number kind answer is call is_item =
    elim (cases_Bool (has_landed answer)) [
      | inr none ↦ subst (IsBound leg tx back) (sym (call.unchanged none)) is
      | inl landed ↦
          let next = next-is leg a b number kind answer is.of_script is.landed call landed is_item in
          let slots = room-taken answer (slots_of a) (slots_of b) 1 call.room.slots in
          let bytes = room-taken answer (bytes_of a) (bytes_of b) (octet_count kind) call.room.bytes in
          let entries = is.room.entries in
          let octets = is.room.octets in
          let less = next.entries in
          let fewer = next.octets in
          record {
            of_script = of-then leg a b is.of_script call.script;
            sends = subst (λ (v : Vec (OutEnd Container)). SameOuts tx v.items) (sym call.rings.tx) is.sends;
            returns = subst (λ (end_ : InEnd BackCell). SameIns back (end_ ∷ [])) (sym call.rings.back) is.returns;
            room = record { entries = omega arith; octets = omega arith };
            landed = landed-submits leg a b number kind answer is.of_script is.landed call landed is_item;
          }
    ]
