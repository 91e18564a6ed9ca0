-- The next item lands or stalls, and what that leaves of one direction, of a walk and of the totals.
use Rattle.std.proofs.Common.{◌≡◌, ℕ, ◌+◌, nat_lt, slice_get, Option, Some, None, option_map, inl, inr, refl, sym, ◌∙◌}
use Rattle.std.proofs.Common.{ap, ◌-◌, ◌<◌, ◌≤◌, ◌&&◌, not, min, Bool, true, false, List, [], ◌∷◌, length, map, subst}
use Rattle.std.proofs.Common.{IfSome, take, arith, is_some, ltb-false, lt-ltb, le-ltb}
use Rattle.std.proofs.lemmas.Bool.{cases_Bool}
use Rattle.law_model.specs.Common.{Leg, Counts, Step, land_due, step, BackCell, used_in, Scenario, DueCommand}
use Rattle.law_model.specs.Common.{DueFrame, order_of, Source, refusal, Stream, refusal_while, frame_refusal, Course}
use Rattle.law_model.specs.Common.{Told, most_items, dues_of, held, scenario_by}
use Rattle.law_model.specs.declared.script_types.Item.{Item}
use Rattle.law_model.specs.declared.walk_events.Event.{Event}
use Rattle.law_model.specs.declared.walk_events.Event.TheVariants.{Accept, Command}
use Rattle.law_model.specs.declared.walk_events.StallCause.{StallCause}
use Rattle.law_model.specs.declared.walk_events.StallCause.TheVariants.{NotDue, Done as Stall_done}
use Rattle.law_model.specs.declared.item_refusals.Refusal.{Refusal}
use Rattle.law_walk.specs.Common.{walk_plan, refusal_at, back_cell, last_packet, IsWalked, Numbered, told_before}
use Rattle.law_walk.specs.Common.{is_client, refused_by, refusals_of, IsPlaced, totals_of, with_frame_told}
use Rattle.law_walk.specs.Common.{session_of, with_command_told}
use Rattle.terminal_group.specs.ItemPlaces.{is_frame, is_command, place_of}
use Rattle.terminal_group.proofs.ItemPlaceAndHeldItemLaws.{due_found, frame-due, command-due, place-found}
use Rattle.walk_engine.specs.Common.{stall_by, answer_by, refusal_of_item, refusal_in_event, moved_of, counts_after}
use Rattle.walk_engine.specs.Common.{path_of, landing_of, Parts, counts_of, note_of, HasSent, HasBack, HasCounted}
use Rattle.walk_engine.specs.Common.{HasLanded, line_counts, told_leg, next_in, told_scenario, Makes, IsDue, Walking}
use Rattle.walk_engine.specs.Common.{LiveStands, walking_counts}
use Rattle.walk_engine.specs.declared.walk_core.step_answers.Moved.{Moved}
use Rattle.walk_engine.specs.declared.walk_core.step_answers.Moved.TheVariants.{Stalled}
use Rattle.walk_engine.proofs.WayEventAndToldSourceLaws.{stalled-moved, walk-fits, walked-next, sink-stays}
use Rattle.walk_engine.proofs.WayEventAndToldSourceLaws.{told-source, told-stream}
use Rattle.std.specs.List.{range_with_len}
use Rattle.law_model.specs.declared.script_types.ItemKind.{ItemKind}
use Rattle.law_model.specs.declared.lcas_states.Command.{Command as LcasCommand}
use Rattle.law_model.specs.declared.session_totals.Totals.{Totals}
use Rattle.std.proofs.lemmas.Option.{slice_get_past}
use Rattle.law_model.proofs.ListLaws.{slice_get-inside}
use Rattle.law_model.specs.declared.script_types.ItemKind.TheVariants.{Frame, Add, Remove}
use Rattle.law_model.specs.declared.lcas_states.Command.TheVariants.{Add as add, Remove as remove}
use Rattle.law_model.specs.declared.item_refusals.Refusal.TheVariants.{Frame as frame_fault, Command as command_fault}
use Rattle.terminal_source.specs.source_core.Terminal.{Terminal, SameKind}
use Rattle.terminal_source.specs.source_core.GivenScenario.{SourceStands as HasMade}
use Rattle.law_walk.proofs.WalkPlanAndPoppedCellLaws.{sound-walks}
use Rattle.law_walk.proofs.LandedItemRefusalAndTotalLaws.{frame-waits, command-waits, offer-at, order-at}
use Rattle.law_walk.proofs.LandedItemRefusalAndTotalLaws.{meets-stream, meets-source, frame-placed, command-placed}
use Rattle.law_walk.proofs.LandedItemRefusalAndTotalLaws.{frame-totals, command-totals}
use Rattle.terminal_group.specs.SourceByCounts.{Counted, SameNetwork, and_one, with_landed}
use Rattle.terminal_group.specs.declared.landed_counts.LandedCounts.{LandedCounts}
use Rattle.terminal_group.specs.ReturnInbox.{Inbox}
use Rattle.terminal_group.specs.Landed.{Landed, none_landed, next_number, next_place, there_at, due_at, HasPassed}
use Rattle.terminal_group.specs.Landed.{IsReasonAt}
use Rattle.terminal_group.specs.RefusalCodes.{IsReason}
use Rattle.terminal_group.proofs.RefusalCodeLaws.{kind-reason, reason-at}
use Rattle.terminal_group.specs.GivenItem.{met_by, with_kind}
use Rattle.terminal_group.proofs.ItemPlaceAndHeldItemLaws.{bare-dues}
use Rattle.terminal_group.proofs.RefusalOrderAndNextItemLaws.{all-dues, client-frame, operator-command, placed-same}
use Rattle.terminal_group.proofs.LandingLegItemLaws.{place_by, numbered, next_by, next-counts, next-place, bare-size}
use Rattle.terminal_group.proofs.LandingLegItemLaws.{bare-due, kept-item, next-there, offer-here, order-here, Leaves, leaves}
use Rattle.walk_engine.specs.walk_core.WayParts.{WayStands}

-- ---- An item lands.
-- ---- why the next item doesn't land
stall-cause : (ticks : ℕ) (found : Option Item) (s next : Counts) →
    (land_due ticks (option_map (λ (item : Item). item.due) found) s next).cause ≡ stall_by ticks found
stall-cause ticks None s next = refl
stall-cause ticks (Some item) s next = elim (cases_Bool (nat_lt ticks item.due))
    [ inl e ↦ rw e refl | inr e ↦ rw e refl ]

land-stays : (ticks : ℕ) (due : Option ℕ) (s next : Counts) (cause : StallCause) →
    (land_due ticks due s next).cause ≡ Some cause → (land_due ticks due s next).counts ≡ s
land-stays ticks None s next cause e = refl
land-stays ticks (Some due) s next cause e =
    elim (cases_Bool (nat_lt ticks due))
    [ inl late ↦ rw late refl | inr now ↦ absurd (let f : None ≡ Some cause = rw now at e in cc) ]

pub land-moves : (ticks : ℕ) (due : Option ℕ) (s next : Counts) → (land_due ticks due s next).cause ≡ None →
    (land_due ticks due s next).counts ≡ next
land-moves ticks None s next e = absurd cc
land-moves ticks (Some due) s next e =
    elim (cases_Bool (nat_lt ticks due))
    [ inl late ↦ absurd (let f : Some (NotDue due) ≡ None = rw late at e in cc) | inr now ↦ rw now refl ]

-- ---- an event lands the next item of its kind, which is at place i, or stalls
pub record IsNext (leg : Leg) (s next : Counts) (event : Event) (i : ℕ) : Type 0 where
  pub steps : step (walk_plan leg) s event ≡ land_due s.ticks (due_found leg.items i) s next
  pub why : refusal_in_event leg s event ≡ refusal_of_item leg i (slice_get leg.items i)

pub frame-next : (leg : Leg) (s : Counts) (i : ℕ) → i ≡ place_of is_frame s.frames leg.items →
    IsNext leg s (record s { frames = s.frames + 1 }) Accept i
frame-next leg s i at = record {
  steps = ap (λ due. land_due s.ticks due s (record s { frames = s.frames + 1 }))
      (frame-due leg.items s.frames ∙ ap (due_found leg.items) (sym at));
  why = ap (λ n. refusal_of_item leg n (slice_get leg.items n)) (sym at);
}

pub command-next : (leg : Leg) (s : Counts) (i : ℕ) → i ≡ place_of is_command s.commands leg.items →
    IsNext leg s (record s { commands = s.commands + 1 }) Command i
command-next leg s i at = record {
  steps = ap (λ due. land_due s.ticks due s (record s { commands = s.commands + 1 }))
      (command-due leg.items s.commands ∙ ap (due_found leg.items) (sym at));
  why = ap (λ n. refusal_of_item leg n (slice_get leg.items n)) (sym at);
}

-- what an event answers that lands an item
abbrev pub answer_of : Option Refusal → Moved
answer_of why = answer_by None why

module _ (leg : Leg) (s next : Counts) (event : Event) (i : ℕ) (is : IsNext leg s next event i) where
  pub next-cause : (step (walk_plan leg) s event).cause ≡ stall_by s.ticks (slice_get leg.items i)
  next-cause = ap (λ (done : Step). done.cause) is.steps ∙ stall-cause s.ticks (slice_get leg.items i) s next

  pub next-stays : (cause : StallCause) → (step (walk_plan leg) s event).cause ≡ Some cause →
      (s ≡ counts_after leg s event) × (Stalled cause ≡ moved_of leg s event)
  next-stays cause e = (
    sym (ap (λ (done : Step). done.counts) is.steps
        ∙ land-stays s.ticks (due_found leg.items i) s next cause
        (sym (ap (λ (done : Step). done.cause) is.steps) ∙ e)),
    stalled-moved cause (step (walk_plan leg) s event).cause (refusal_in_event leg s event) e,
  )

  pub next-moves : (item : Item) → slice_get leg.items i ≡ Some item →
      (step (walk_plan leg) s event).cause ≡ None →
      (next ≡ counts_after leg s event) ×
      (answer_of (refusal_at leg (record { number = i; item = item })) ≡ moved_of leg s event)
  next-moves item there e = (
    sym (ap (λ (done : Step). done.counts) is.steps
        ∙ land-moves s.ticks (due_found leg.items i) s next (sym (ap (λ (done : Step). done.cause) is.steps) ∙ e)),
    ap (λ found. answer_of (refusal_of_item leg i found)) (sym there) ∙ ap answer_of (sym is.why)
        ∙ ap (λ cause. answer_by cause (refusal_in_event leg s event)) (sym e),
  )

-- ---- What an item that lands leaves of one direction, of a walk, and of what is known of the items.
-- ---- an item that lands, in numbers
pub record Lands (leg : Leg) (s next : Counts) (source : Terminal) (i : ℕ) (item : Item)
    (tell : Option Refusal → Totals → Totals) : Type 0 where
  pub met : met_by source item.kind ≡ refusal_at leg (record { number = i; item = item })
  pub told : with_kind (told_scenario leg s) s.ticks item.kind ≡ told_scenario leg next
  pub placed : IsPlaced i (refused_by i (refusal_at leg (record { number = i; item = item })))
      (refusals_of leg s) (refusals_of leg next)
  pub totals : totals_of leg next ≡ tell (refusal_at leg (record { number = i; item = item }))
      (totals_of leg s)

-- one more has landed, a frame or a command
abbrev pub and_landed : Bool → Counts → Counts
and_landed true s = record s { frames = s.frames + 1 }
and_landed false s = record s { commands = s.commands + 1 }

-- so much has landed, of whatever items
abbrev landed_as : Counts → Landed
landed_as s = record (none_landed 0 []) { frames = s.frames; commands = s.commands }

-- what one more of a kind does to the totals
abbrev pub tell_by : Bool → Option Refusal → Totals → Totals
tell_by true = with_frame_told
tell_by false = with_command_told

module _ (leg : Leg) (backs : ℕ) (parts : Parts) (is : WayStands leg backs parts) where
  abbrev s : Counts
  s = counts_of parts backs

  frame-lands : (due : ℕ) (octets : List ℕ) →
      slice_get leg.items (next_in leg (counts_of parts backs) true)
      ≡ Some (record { due = due; kind = Frame octets }) →
      due ≤ parts.source.core.ticks →
      Lands leg (counts_of parts backs) (and_landed true (counts_of parts backs)) parts.source.core
      (next_in leg (counts_of parts backs) true) (record { due = due; kind = Frame octets }) with_frame_told
  frame-lands due octets there soon =
      let place : ℕ = next_in leg (counts_of parts backs) true in
      let offer : DueFrame = record { due = due; frame = octets } in
      let one : Numbered = numbered place due (Frame octets) in
      let here = offer-here leg.items parts.source.landed.frames place due octets refl there in
      let next = (offer-at leg.items parts.source.landed.frames one offer here).0 in
      let late = frame-waits leg s parts.source.landed.frames offer is.walked (omega arith) next in
      let now : due ≡ parts.source.core.ticks = omega (arith, soon, late) in
      record {
        met = ap (λ (waiting : List (List ℕ)). option_map frame_fault (refusal_while waiting octets))
            is.source.made.stream.waits
            ∙ ap (λ (stream : Stream). option_map frame_fault (frame_refusal octets stream))
            (told-stream leg s (told_before leg s.ticks))
            ∙ sym (meets-stream leg s (sound-walks leg is.sound) is.walked one offer here soon);
        told = ap (λ t. with_kind (told_scenario leg s) t (Frame octets)) (sym now)
            ∙ (leaves (told_leg leg s.ticks) s (landed_as s) place due (Frame octets) refl there).scenario;
        placed = frame-placed leg s one offer here;
        totals = frame-totals leg s one offer here;
      }

  command-lands : (due : ℕ) (kind : ItemKind) (command : LcasCommand) →
      order_of due kind ≡ record { due = due; command = command } ∷ [] →
      met_by parts.source.core kind
      ≡ option_map command_fault (refusal parts.source.core.lines command parts.source.core.table.source) →
      slice_get leg.items (next_in leg (counts_of parts backs) false) ≡ Some (record { due = due; kind = kind }) →
      Leaves (told_leg leg parts.source.core.ticks) (counts_of parts backs)
      (and_landed false (counts_of parts backs))
      (numbered (next_in leg (counts_of parts backs) false) due kind) →
      due ≤ parts.source.core.ticks →
      Lands leg (counts_of parts backs) (and_landed false (counts_of parts backs)) parts.source.core
      (next_in leg (counts_of parts backs) false) (record { due = due; kind = kind }) with_command_told
  command-lands due kind command is_order met there with_it soon =
      let place : ℕ = next_in leg (counts_of parts backs) false in
      let order : DueCommand = record { due = due; command = command } in
      let one : Numbered = numbered place due kind in
      let here = order-here leg.items parts.source.landed.commands place due kind order refl is_order there in
      let next = (order-at leg.items parts.source.landed.commands one order here).0 in
      let late = command-waits leg s parts.source.landed.commands order is.walked (omega arith) next in
      let now : due ≡ parts.source.core.ticks = omega (arith, soon, late) in
      record {
        met = met
            ∙ ap (λ lines. option_map command_fault (refusal lines command parts.source.core.table.source))
            is.source.made.lines
            ∙ ap (λ (source : Source). option_map command_fault
            (refusal (length leg.config.windows) command source))
            (ap (λ (c : Course). c.source) is.source.made.table ∙ told-source leg s (told_before leg s.ticks))
            ∙ sym (meets-source leg s (sound-walks leg is.sound) is.walked one order here soon);
        told = ap (λ t. with_kind (told_scenario leg s) t kind) (sym now) ∙ with_it.scenario;
        placed = command-placed leg s one order here;
        totals = command-totals leg s one order here;
      }

  lands-by : (client : Bool) (due : ℕ) (kind : ItemKind) →
      slice_get leg.items (next_in leg (counts_of parts backs) client) ≡ Some (record { due = due; kind = kind }) →
      due ≤ parts.source.core.ticks →
      Lands leg (counts_of parts backs) (and_landed client (counts_of parts backs)) parts.source.core
      (next_in leg (counts_of parts backs) client) (record { due = due; kind = kind }) (tell_by client)
  lands-by true due (Frame octets) there soon = frame-lands due octets there soon
  lands-by true due (Add line) there soon =
      let other : false ≡ true =
      (place-found is_frame leg.items parts.source.landed.frames (record { due = due; kind = Add line }) there).0 in
      absurd cc
  lands-by true due (Remove line) there soon =
      let other : false ≡ true =
      (place-found is_frame leg.items parts.source.landed.frames (record { due = due; kind = Remove line }) there).0 in
      absurd cc
  lands-by false due (Frame octets) there soon =
      let other : false ≡ true =
      (place-found is_command leg.items parts.source.landed.commands
      (record { due = due; kind = Frame octets }) there).0 in
      absurd cc
  lands-by false due (Add line) there soon =
      command-lands due (Add line) (add line) refl refl there
      (leaves (told_leg leg s.ticks) s (landed_as s) (next_in leg (counts_of parts backs) false) due
      (Add line) refl there) soon
  lands-by false due (Remove line) there soon =
      command-lands due (Remove line) (remove line) refl refl there
      (leaves (told_leg leg s.ticks) s (landed_as s) (next_in leg (counts_of parts backs) false) due
      (Remove line) refl there)
      soon

  -- what lands next is the leg's
  pub next-by : (client : Bool) → IsNext leg (counts_of parts backs) (and_landed client (counts_of parts backs))
      (landing_of client) (next_in leg (counts_of parts backs) client)
  next-by true = frame-next leg (counts_of parts backs) (next_in leg (counts_of parts backs) true) refl
  next-by false = command-next leg (counts_of parts backs) (next_in leg (counts_of parts backs) false) refl

  -- few items have landed
  landed-few : parts.source.landed.frames + parts.source.landed.commands ≤ most_items
  landed-few =
      let fits = walk-fits leg (counts_of parts backs) is.sound is.walked in
      let frames = fits.frames in
      let commands = fits.commands in
      let all = all-dues leg.items in
      let few = is.sound.few in
      omega (arith, frames, commands, all, few)

  -- ---- the direction after it, where its source side was given the item, and so much has landed
  land-kept : (kind : ItemKind) (now : Counted) (next : Counts) → next ≡ counts_of (record parts { source = now }) backs →
      now.total ≡ parts.source.total → HasCounted leg next now.landed → IsWalked leg next →
      with_kind (told_scenario leg (counts_of parts backs)) parts.source.core.ticks kind ≡ told_scenario leg next →
      HasMade now.core (with_kind (told_scenario leg (counts_of parts backs)) parts.source.core.ticks kind)
      (told_before leg parts.source.core.ticks) →
      now.core.ticks ≡ parts.source.core.ticks → SameKind now.core parts.source.core →
      WayStands leg backs (record parts { source = now })
  land-kept kind now next e total has walked told made ticks same = record {
    sound = is.sound;
    total = total ∙ is.total;
    walked = subst (IsWalked leg) e walked;
    source = record {
      made = subst (λ t. HasMade now.core (told_scenario leg (counts_of (record parts { source = now }) backs))
          (told_before leg t)) (sym ticks)
          (subst (λ (scenario : Scenario). HasMade now.core scenario (told_before leg parts.source.core.ticks))
          (told ∙ ap (told_scenario leg) e) made);
      lines = same.lines ∙ is.source.lines;
      lag = same.lag ∙ is.source.lag;
      size = same.size ∙ is.source.size;
      statuses = same.statuses ∙ is.source.statuses;
    };
    sent = subst (λ t. HasSent leg t (map line_counts parts.lines) parts.sent) (sym ticks) is.sent;
    lines = is.lines;
    agrees = λ t low. is.agrees t (omega (arith, low, ticks));
    sink = sink-stays leg (counts_of parts backs) _ parts.rows parts.sink refl is.sink;
    landed = subst (λ (c : Counts). HasCounted leg c now.landed) e has;
    counted = is.counted;
  }

-- ---- the counts and the totals, where one has landed more
told-landed : (client : Bool) (why : Option Refusal) (was now : Totals) (s : Counts) (a b : ℕ) →
    now ≡ tell_by client why was → s.frames ≡ was.frames + a → s.commands ≡ was.commands + b →
    was.refused ≡ a + b → a < 4294967295 → b < 4294967295 →
    ((and_landed client s).frames ≡ now.frames + and_one a (is_some why && client))
    × ((and_landed client s).commands ≡ now.commands + and_one b (is_some why && not client))
    × (now.refused ≡ and_one a (is_some why && client) + and_one b (is_some why && not client))
told-landed true None was now s a b told f g r low few =
    rw told (omega (arith, f), omega (arith, g), omega (arith, r))
told-landed true (Some why) was now s a b told f g r low few =
    rw told (omega (arith, f, low), omega (arith, g), omega (arith, r, low))
told-landed false None was now s a b told f g r low few =
    rw told (omega (arith, f), omega (arith, g), omega (arith, r))
told-landed false (Some why) was now s a b told f g r low few =
    rw told (omega (arith, f), omega (arith, g, few), omega (arith, r, few))

has-counted : (client : Bool) (leg : Leg) (was : Counts) (landed : LandedCounts) (why : Option Refusal) →
    was.frames ≤ most_items → was.commands ≤ most_items → HasCounted leg was landed →
    totals_of leg (and_landed client was) ≡ tell_by client why (totals_of leg was) →
    HasCounted leg (and_landed client was) (with_landed landed client (is_some why))
has-counted client leg was landed why low few has told =
    let frames = has.frames in
    let commands = has.commands in
    let t = told-landed client why (totals_of leg was) (totals_of leg (and_landed client was)) was landed.refused_frames
    landed.refused_commands told frames commands has.refused (omega (arith, low, frames)) (omega (arith, few, commands))
    in
    record { frames = t.0; commands = t.1; refused = t.2 }

counts-landed : (client refused : Bool) (s : Counts) (landed : LandedCounts) → s.frames ≡ landed.frames →
    s.commands ≡ landed.commands → s.frames ≤ most_items → s.commands ≤ most_items →
    record s {
      frames = (with_landed landed client refused).frames;
      commands = (with_landed landed client refused).commands;
    } ≡ and_landed client s
counts-landed true refused s landed f g low few =
    ap (λ n. record s { frames = n; commands = landed.commands })
    (let e : min (landed.frames + 1) 4294967295 ≡ s.frames + 1 = omega (arith, f, low) in e)
    ∙ ap (λ n. record s { frames = s.frames + 1; commands = n }) (sym g)
counts-landed false refused s landed f g low few =
    ap (λ n. record s { frames = landed.frames; commands = n })
    (let e : min (landed.commands + 1) 4294967295 ≡ s.commands + 1 = omega (arith, g, few) in e)
    ∙ ap (λ n. record s { frames = n; commands = s.commands + 1 }) (sym f)

-- a source that was given an item more
pub record IsGiven (now was : Terminal) (kind : ItemKind) : Type 0 where
  pub stands : (scenario : Scenario) (cells : List (Option Told)) → HasMade was scenario cells →
      HasMade now (with_kind scenario was.ticks kind) cells
  pub ticks : now.ticks ≡ was.ticks
  pub same : SameKind now was

-- a source side that has landed an item more
pub record HasTaken (was now : Counted) (kind : ItemKind) (why : Option Refusal) : Type 0 where
  pub met : why ≡ met_by was.core kind
  pub given : IsGiven now.core was.core kind
  pub landed : now.landed ≡ with_landed was.landed (is_client kind) (is_some why)
  pub rest : SameNetwork was now

next-none : (place : ℕ) (items : List Item) → there_at place items ≡ None → length items ≤ place
next-none place items e =
    elim (cases_Bool (nat_lt place (length items))) [
      | inl low ↦ absurd (let f : Some place ≡ None = rw low at e in cc)
      | inr past ↦ ltb-false place (length items) past
    ]

module _ (leg : Leg) (backs : ℕ) (parts : Parts) (is : WayStands leg backs parts) where
  -- ---- an item that is due lands
  module _ (kind : ItemKind) (is_due : IsDue leg (counts_of parts backs) kind) where
    lands : Lands leg (counts_of parts backs) (and_landed (is_client kind) (counts_of parts backs)) parts.source.core
        (next_in leg (counts_of parts backs) (is_client kind)) (record { due = is_due.due; kind = kind })
        (tell_by (is_client kind))
    lands = lands-by leg backs parts is (is_client kind) is_due.due kind is_due.next is_due.by_now

    moves : (and_landed (is_client kind) (counts_of parts backs)
        ≡ counts_after leg (counts_of parts backs) (landing_of (is_client kind)))
        × (answer_of (refusal_at leg (record {
          number = next_in leg (counts_of parts backs) (is_client kind);
          item = record { due = is_due.due; kind = kind };
        })) ≡ moved_of leg (counts_of parts backs) (landing_of (is_client kind)))
    moves =
        let soon : nat_lt parts.source.core.ticks is_due.due ≡ false =
        le-ltb parts.source.core.ticks is_due.due is_due.by_now in
        let next = next-by leg backs parts is (is_client kind) in
        next-moves leg (counts_of parts backs) (and_landed (is_client kind) (counts_of parts backs))
        (landing_of (is_client kind)) (next_in leg (counts_of parts backs) (is_client kind)) next
        (record { due = is_due.due; kind = kind }) is_due.next
        (next-cause leg (counts_of parts backs) (and_landed (is_client kind) (counts_of parts backs))
        (landing_of (is_client kind)) (next_in leg (counts_of parts backs) (is_client kind)) next
        ∙ ap (stall_by parts.source.core.ticks) is_due.next ∙ rw soon refl)

    -- why it is refused
    pub land-why : (why : Option Refusal) → why ≡ met_by parts.source.core kind →
        why ≡ refusal_in_event leg (counts_of parts backs) (landing_of (is_client kind))
    land-why why met =
        met ∙ lands.met
        ∙ ap (refusal_of_item leg (next_in leg (counts_of parts backs) (is_client kind))) (sym is_due.next)
        ∙ sym (next-by leg backs parts is (is_client kind)).why

    pub land-taken : (now : Counted) (why : Option Refusal) → HasTaken parts.source now kind why →
        Makes leg backs (landing_of (is_client kind)) parts (record parts { source = now }) (answer_by None why)
    land-taken now why has =
        let client : Bool = is_client kind in
        let before : Counts = counts_of parts backs in
        let next : Counts = and_landed client before in
        let few = landed-few leg backs parts is in
        let low : before.frames ≤ most_items = omega (arith, few) in
        let most : before.commands ≤ most_items = omega (arith, few) in
        let same_why = sym (has.met ∙ lands.met) in
        let landed : HasCounted leg next now.landed =
        subst (HasCounted leg next) (sym has.landed)
        (has-counted client leg before parts.source.landed why low most is.landed
        (lands.totals ∙ ap (λ found. tell_by client found (totals_of leg before)) same_why)) in
        let ends : next ≡ counts_of (record parts { source = now }) backs =
        sym (ap (λ t. record (counts_of (record parts { source = now }) backs) { ticks = t }) has.given.ticks
        ∙ ap (λ (l : LandedCounts). record before { frames = l.frames; commands = l.commands }) has.landed
        ∙ counts-landed client (is_some why) before parts.source.landed refl refl low most) in
        record {
          stands = land-kept leg backs parts is kind now next ends has.rest.total landed
              (walked-next leg before next (landing_of client) is.walked moves.0) lands.told
              (has.given.stands (told_scenario leg before) (told_before leg parts.source.core.ticks) is.source.made)
              has.given.ticks has.given.same;
          counts = sym ends ∙ moves.0;
          moved = ap answer_of (sym same_why) ∙ moves.1;
        }

  -- ---- by the items, where they are known
  module _ (landing : Landed) (known : HasLanded leg (counts_of parts backs) landing) where
    place-same : (client : Bool) → place_by client landing leg.items ≡ next_in leg (counts_of parts backs) client
    place-same true = ap (λ n. place_of is_frame n leg.items) known.frames
    place-same false = ap (λ n. place_of is_command n leg.items) known.commands

    pub number-in : (client : Bool) (number : ℕ) → next_number landing client ≡ Some number →
        (number ≡ next_in leg (counts_of parts backs) client) × (number < length leg.items)
    number-in client number e =
        let there = next-there leg.items landing known.items client number e in
        (there.0 ∙ place-same client, there.1)

    module _ (client : Bool) where
      cause-is : (step (walk_plan leg) (counts_of parts backs) (landing_of client)).cause
          ≡ stall_by parts.source.core.ticks (slice_get leg.items (next_in leg (counts_of parts backs) client))
      cause-is = next-cause leg (counts_of parts backs) (and_landed client (counts_of parts backs))
          (landing_of client) (next_in leg (counts_of parts backs) client) (next-by leg backs parts is client)

      pub land-none : next_number landing client ≡ None →
          (step (walk_plan leg) (counts_of parts backs) (landing_of client)).cause ≡ Some Stall_done
      land-none none =
          let past = next-none (next_place landing client) landing.items none in
          let place = next-place leg.items landing known.items client ∙ place-same client in
          let size = bare-size leg.items landing known.items in
          cause-is ∙ ap (stall_by parts.source.core.ticks)
          (slice_get_past leg.items (next_in leg (counts_of parts backs) client) (omega (arith, past, place, size)))

      found-at : (number : ℕ) → next_number landing client ≡ Some number →
          (item : Item) × (slice_get leg.items (next_in leg (counts_of parts backs) client) ≡ Some item)
          × (due_at landing.items number ≡ item.due)
      found-at number e =
          let (at, low) = number-in client number e in
          let (item, here) = slice_get-inside leg.items number low in (
            item,
            ap (slice_get leg.items) (sym at) ∙ here,
            bare-due leg.items landing known.items number item here,
          )

      pub land-early : (number ticks due : ℕ) → next_number landing client ≡ Some number →
          ticks ≡ parts.source.core.ticks → due ≡ due_at landing.items number → ticks < due →
          (step (walk_plan leg) (counts_of parts backs) (landing_of client)).cause ≡ Some (NotDue due)
      land-early number ticks due e now late low =
          let (item, here, is_due) = found-at number e in
          let test : nat_lt parts.source.core.ticks item.due ≡ true =
          lt-ltb parts.source.core.ticks item.due (omega (arith, is_due, now, late, low)) in
          let same : item.due ≡ due = omega (arith, is_due, late) in
          cause-is ∙ ap (stall_by parts.source.core.ticks) here ∙ rw test (ap (λ n. Some (NotDue n)) same)

      pub land-due : (number ticks due : ℕ) → next_number landing client ≡ Some number →
          ticks ≡ parts.source.core.ticks → due ≡ due_at landing.items number → due ≤ ticks →
          (step (walk_plan leg) (counts_of parts backs) (landing_of client)).cause ≡ None
      land-due number ticks due e now late low =
          let (item, here, is_due) = found-at number e in
          let test : nat_lt parts.source.core.ticks item.due ≡ false =
          le-ltb parts.source.core.ticks item.due (omega (arith, is_due, now, late, low)) in
          cause-is ∙ ap (stall_by parts.source.core.ticks) here ∙ rw test refl

      pub land-stays-landed : (cause : StallCause) →
          (step (walk_plan leg) (counts_of parts backs) (landing_of client)).cause ≡ Some cause →
          (counts_of parts backs ≡ counts_after leg (counts_of parts backs) (landing_of client))
          × (Stalled cause ≡ moved_of leg (counts_of parts backs) (landing_of client))
      land-stays-landed cause e = next-stays leg (counts_of parts backs) (and_landed client (counts_of parts backs))
          (landing_of client) (next_in leg (counts_of parts backs) client) (next-by leg backs parts is client) cause e

      -- ---- the item of the next number
      module _ (number : ℕ) (kind : ItemKind) (e : next_number landing client ≡ Some number)
          (handed : (item : Item) → slice_get leg.items number ≡ Some item → kind ≡ item.kind) where
        -- it is of the kind that lands
        pub land-kind : is_client kind ≡ client
        land-kind =
            let (at, low) = number-in client number e in
            let (item, here, due) = found-at number e in
            ap is_client (handed item (ap (slice_get leg.items) at ∙ here)) ∙ by-kind client item here
          where
            by-kind : (client : Bool) (item : Item) →
                slice_get leg.items (next_in leg (counts_of parts backs) client) ≡ Some item →
                is_client item.kind ≡ client
            by-kind true item here = client-frame item.kind
                (place-found is_frame leg.items parts.source.landed.frames item here).0
            by-kind false item here = operator-command item.kind
                (place-found is_command leg.items parts.source.landed.commands item here).0

        pub due-in : due_at landing.items number ≤ parts.source.core.ticks → IsDue leg (counts_of parts backs) kind
        due-in soon =
            let (at, low) = number-in client number e in
            let (item, here, due) = found-at number e in
            let is_kind : kind ≡ item.kind = handed item (ap (slice_get leg.items) at ∙ here) in
            record {
              due = item.due;
              by_now = omega (arith, soon, due);
              next = ap (λ b. slice_get leg.items (next_in leg (counts_of parts backs) b)) land-kind ∙ here
                  ∙ ap (λ (k : ItemKind). Some (record { due = item.due; kind = k })) (sym is_kind);
            }

    -- ---- the least item that is due and hasn't landed
    pub held-known : (ticks : ℕ) → ticks ≡ parts.source.core.ticks →
        held ticks landing.frames landing.commands 0 (dues_of landing.items)
        ≡ held parts.source.core.ticks parts.source.landed.frames parts.source.landed.commands 0 (walk_plan leg).items
    held-known ticks now =
        ap (λ n. held n landing.frames landing.commands 0 (dues_of landing.items)) now
        ∙ ap (λ n. held parts.source.core.ticks n landing.commands 0 (dues_of landing.items)) known.frames
        ∙ ap (λ n. held parts.source.core.ticks parts.source.landed.frames n 0 (dues_of landing.items)) known.commands
        ∙ ap (held parts.source.core.ticks parts.source.landed.frames parts.source.landed.commands 0)
        (ap dues_of known.items ∙ bare-dues leg.items)

    -- ---- the item that is handed in is refused for one of its reasons
    pub land-reason : (number : ℕ) (kind : ItemKind) (why : Option Refusal) →
        IsDue leg (counts_of parts backs) kind →
        why ≡ refusal_in_event leg (counts_of parts backs) (landing_of (is_client kind)) →
        ((item : Item) → slice_get leg.items number ≡ Some item → kind ≡ item.kind) →
        IfSome why (IsReasonAt landing number)
    land-reason number kind why is_due refuses handed =
        let place : ℕ = next_in leg (counts_of parts backs) (is_client kind) in
        let at : Numbered = record { number = place; item = record { due = is_due.due; kind = kind } } in
        let told : why ≡ refusal_at leg at = refuses ∙ (next-by leg backs parts is (is_client kind)).why
        ∙ ap (refusal_of_item leg place) is_due.next in
        let lines : length leg.config.windows ≡ landing.lines = is.sound.network.windows_each ∙ sym known.lines in
        reason-at landing number kind why (λ reason e. subst (λ n. IsReason n kind reason) lines
        (kind-reason (scenario_by leg) (session_of leg) is_due.due (take place leg.items) kind reason (sym told ∙ e)))
        (kept-item leg.items landing known.items number kind handed)

    -- ---- what is known of the items, once one has landed
    pub land-known : (now : Landed) (number : ℕ) (kind : ItemKind) (why : Option Refusal) →
        IsDue leg (counts_of parts backs) kind → next_number landing (is_client kind) ≡ Some number →
        why ≡ refusal_in_event leg (counts_of parts backs) (landing_of (is_client kind)) →
        HasPassed landing now (is_client kind) (is_some why) →
        IsPlaced number (refused_by number why) landing.refusals now.refusals →
        HasLanded leg (counts_after leg (counts_of parts backs) (landing_of (is_client kind))) now
    land-known now number kind why is_due e refuses passed placed =
        let client : Bool = is_client kind in
        let before : Counts = counts_of parts backs in
        let next : Counts = and_landed client before in
        let place : ℕ = next_in leg before client in
        let at = (number-in client number e).0 in
        let same_why : refusal_at leg (record { number = place; item = record { due = is_due.due; kind = kind } })
        ≡ why = sym (refuses ∙ (next-by leg backs parts is client).why
        ∙ ap (refusal_of_item leg place) is_due.next) in
        let found : IsPlaced place (refused_by place why) landing.refusals (refusals_of leg next) =
        subst (λ was. IsPlaced place (refused_by place why) was (refusals_of leg next)) (sym known.refusals)
        (subst (λ r. IsPlaced place (refused_by place r) (refusals_of leg before) (refusals_of leg next)) same_why
        (lands kind is_due).placed) in
        let own : IsPlaced place (refused_by place why) landing.refusals now.refusals =
        subst (λ n. IsPlaced n (refused_by n why) landing.refusals now.refusals) at placed in
        let counts = next-counts client before landing now.frames now.commands passed.frames passed.commands in
        let counted : next_by client before landing ≡ next = counts-known client before landing known.frames
        known.commands in
        subst (λ (s : Counts). HasLanded leg s now) (moves kind is_due).0 (record {
          items = passed.items ∙ known.items;
          lines = passed.lines ∙ known.lines;
          frames = ap (λ (s : Counts). s.frames) (sym counts ∙ counted);
          commands = ap (λ (s : Counts). s.commands) (sym counts ∙ counted);
          refusals = placed-same place (refused_by place why) landing.refusals now.refusals (refusals_of leg next) own
              found;
        })
      where
        counts-known : (client : Bool) (s : Counts) (landing : Landed) → landing.frames ≡ s.frames →
            landing.commands ≡ s.commands → next_by client s landing ≡ and_landed client s
        counts-known true s landing f g =
            ap (λ n. record s { frames = n + 1; commands = landing.commands }) f
            ∙ ap (λ n. record s { frames = s.frames + 1; commands = n }) g
        counts-known false s landing f g =
            ap (λ n. record s { frames = n; commands = landing.commands + 1 }) f
            ∙ ap (λ n. record s { frames = s.frames; commands = n + 1 }) g

-- ---- a walk after an item has landed
-- what its inbox holds after some ticks
abbrev inbox_at : Leg → ℕ → ℕ → List BackCell
inbox_at leg ticks backs =
    map (back_cell leg) (range_with_len (used_in leg.config.lag ticks) (backs - used_in leg.config.lag ticks))

pub landed-live : (leg : Leg) (was : Walking) (now : Parts) → LiveStands leg was →
    WayStands leg was.way.source.inbox.come now → now.source.core.ticks ≡ was.way.source.core.ticks →
    now.source.inbox ≡ was.way.source.inbox → now ≡ record was.way { source = now.source } →
    LiveStands leg (record was { way = now })
landed-live leg was now is stands ticks inbox rest =
    let parts : Parts = was.way in
    let whole : Parts = record parts { source = now.source } in
    let s : Counts = walking_counts was in
    let come : now.source.inbox.come ≡ parts.source.inbox.come = ap (λ (i : Inbox). i.come) inbox in
    let back : HasBack leg s (path_of was.ring now.source.inbox) =
    subst (λ (i : Inbox). HasBack leg s (path_of was.ring i)) (sym inbox) is.back in
    subst (λ (p : Parts). LiveStands leg (record was { way = p })) (sym rest) (record {
      stands = subst (λ n. WayStands leg n whole) (sym come)
          (subst (WayStands leg parts.source.inbox.come) rest stands);
      back = subst (λ n. HasBack leg (counts_of whole n) (path_of was.ring now.source.inbox)) (sym come)
          (record {
            ring = back.ring;
            lost = back.lost;
            inbox = back.inbox ∙ ap (λ t. inbox_at leg t parts.source.inbox.come) (sym ticks);
            room = back.room;
          });
      noted = is.noted ∙ ap (λ t. note_of leg (last_packet t)) (sym ticks);
      quiet = is.quiet;
    })
