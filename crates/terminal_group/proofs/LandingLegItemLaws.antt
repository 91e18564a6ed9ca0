-- An item that lands as one of its leg: its number, why it is refused, and the counts that it leaves.
use Rattle.std.proofs.Common.{◌≡◌, ℕ, suc, ◌+◌, ◌<◌, ◌≤◌, Bool, true, false, if◌then◌else◌, List, [], ◌∷◌, map, filter}
use Rattle.std.proofs.Common.{fold, take, drop, length, slice_get, get_or, All, Option, Some, option_map, refl, sym}
use Rattle.std.proofs.Common.{◌∙◌, ap, subst, arith}
use Rattle.std.proofs.lemmas.List.{length-map, length-drop, get_or-drop}
use Rattle.std.proofs.lemmas.Option.{slice_get-map, slice_get-get_or, slice_get_within}
use Rattle.law_model.proofs.ListLaws.{take-next, slice_get-inside}
use Rattle.law_model.specs.Common.{Leg, DueCommand, DueFrame, order_of, orders_of, offers_of, scenario_by, steps_in}
use Rattle.law_model.specs.Common.{lands_at, comes_at, Source, asked_all, refusal, Stream, stream_before}
use Rattle.law_model.specs.Common.{frame_refusal, refusal_while, offered, Course, with_items, Counts, dues_of}
use Rattle.law_model.specs.Common.{frame_dues, command_dues, Told}
use Rattle.law_model.specs.declared.script_types.Item.{Item}
use Rattle.law_model.specs.declared.script_types.ItemKind.{ItemKind}
use Rattle.law_model.specs.declared.lcas_states.Command.{Command}
use Rattle.law_model.specs.declared.item_refusals.Refusal.{Refusal}
use Rattle.law_model.specs.declared.script_types.ItemKind.TheVariants.{Frame, Add, Remove}
use Rattle.law_model.specs.declared.lcas_states.Command.TheVariants.{Add as add, Remove as remove}
use Rattle.law_session.proofs.ClientStreamAndReplayLaws.{Alike, alike-after, alike-stream}
use Rattle.law_model.specs.declared.item_refusals.Refusal.TheVariants.{Frame as frame_refused}
use Rattle.law_model.specs.declared.item_refusals.Refusal.TheVariants.{Command as command_refused}
use Rattle.terminal_source.specs.source_core.Terminal.{Terminal}
use Rattle.terminal_source.specs.source_core.GivenScenario.{with_command, SourceStands as HasMade}
use Rattle.terminal_source.proofs.SourceTerminalScenarioLaws.{alike-landed, first-alike}
use Rattle.law_walk.specs.Common.{Numbered, landed_items, landed_scenario, is_client, kind_refusal, source_met}
use Rattle.law_walk.specs.Common.{IsOfferAt, IsOrderAt}
use Rattle.law_walk.proofs.LandedItemRefusalAndTotalLaws.{frame-dues, command-dues, offer-at, order-at, IsInserted}
use Rattle.law_walk.proofs.LandedItemRefusalAndTotalLaws.{landed-frame, landed-command}
use Rattle.terminal_group.specs.Item.{bare, bare_kind, bare_items}
use Rattle.terminal_group.specs.ItemPlaces.{is_frame, is_command, place_of}
use Rattle.terminal_group.specs.Landed.{Landed, next_place, next_number, landed_of, due_in, due_at, AreAhead, IsKept}
use Rattle.terminal_group.specs.GivenItem.{met_by, with_kind}
use Rattle.terminal_group.proofs.ItemPlaceAndHeldItemLaws.{count_of, place-found, offers-size, orders-size, bare-dues}
use Rattle.terminal_group.proofs.ItemPlaceAndHeldItemLaws.{bare-place, frame-blind, command-blind}
use Rattle.terminal_group.proofs.RefusalOrderAndNextItemLaws.{number-there, next-due}

-- An item that lands: which item of its leg it is, why it is refused, and what has landed with it.
-- which items a frame, or a command, is among; the place of the next one
abbrev pub kind_by : Bool → ItemKind → Bool
kind_by true = is_frame
kind_by false = is_command

abbrev pub place_by : Bool → Landed → List Item → ℕ
place_by client landed items = place_of (kind_by client) (landed_of landed client) items

-- an item with its number that lands after so many ticks
abbrev pub numbered : ℕ → ℕ → ItemKind → Numbered
numbered number ticks kind = record { number = number; item = record { due = ticks; kind = kind } }

-- the counts where so much has landed, and where one more has, a frame or a command
abbrev pub counts_with : Counts → ℕ → ℕ → Counts
counts_with s frames commands = record s { frames = frames; commands = commands }

abbrev pub counts_by : Counts → Landed → Counts
counts_by s landed = counts_with s landed.frames landed.commands

abbrev pub next_by : Bool → Counts → Landed → Counts
next_by true s landed = counts_with s (landed.frames + 1) landed.commands
next_by false s landed = counts_with s landed.frames (landed.commands + 1)

pub next-counts : (client : Bool) (s : Counts) (landed : Landed) (frames commands : ℕ) →
    frames ≡ landed.frames + (if client then 1 else 0) → commands ≡ landed.commands + (if client then 0 else 1) →
    next_by client s landed ≡ counts_with s frames commands
next-counts true s landed frames commands more same =
    ap (λ n. counts_with s n landed.commands) (sym more)
    ∙ ap (counts_with s frames) (let e : landed.commands ≡ commands = omega (arith, same) in e)
next-counts false s landed frames commands same more =
    ap (counts_with s landed.frames) (sym more)
    ∙ ap (λ n. counts_with s n commands) (let e : landed.frames ≡ frames = omega (arith, same) in e)

-- ---- the next item without its octets is the leg's
module _ (items : List Item) (landed : Landed) (bared : landed.items ≡ bare_items items) where
  pub next-place : (client : Bool) → next_place landed client ≡ place_by client landed items
  next-place true =
      ap (place_of is_frame landed.frames) bared ∙ bare-place is_frame frame-blind landed.frames items
  next-place false =
      ap (place_of is_command landed.commands) bared ∙ bare-place is_command command-blind landed.commands items

  pub bare-size : length landed.items ≡ length items
  bare-size = ap length bared ∙ length-map items bare

  pub bare-due : (number : ℕ) (item : Item) → slice_get items number ≡ Some item → due_at landed.items number ≡ item.due
  bare-due number item here =
      ap due_in (ap (λ (l : List Item). slice_get l number) bared ∙ slice_get-map bare items number
      ∙ ap (option_map bare) here)

  -- what is handed in as the item of a number is what is kept of it
  pub kept-item : (number : ℕ) (kind : ItemKind) →
      ((item : Item) → slice_get items number ≡ Some item → kind ≡ item.kind) → IsKept landed number kind
  kept-item number kind handed found there =
      let inside = slice_get_within landed.items number found there in
      let (item, here) = slice_get-inside items number (omega (arith, inside, bare-size)) in
      let e : Some (bare item) ≡ Some found = sym (ap (λ (l : List Item). slice_get l number) bared
      ∙ slice_get-map bare items number ∙ ap (option_map bare) here) ∙ there in
      let same : bare item ≡ found = cc in
      ap (λ (i : Item). i.kind) (sym same) ∙ ap bare_kind (sym (handed item here))

  pub next-there : (client : Bool) (number : ℕ) → next_number landed client ≡ Some number →
      (number ≡ place_by client landed items) × (number < length items)
  next-there client number next =
      let (at, there) = number-there landed client number next in
      let size = bare-size in
      (at ∙ next-place client, omega (arith, there, size))

  -- and where what hasn't landed isn't due before the ticks that were made, it is due now
  pub due-now : (client : Bool) (number ticks : ℕ) (kind : ItemKind) → next_number landed client ≡ Some number →
      due_at landed.items number ≤ ticks → AreAhead (dues_of landed.items) ticks landed.frames landed.commands →
      ((item : Item) → slice_get items number ≡ Some item → kind ≡ item.kind) →
      slice_get items number ≡ Some (record { due = ticks; kind = kind })
  due-now client number ticks kind next due ahead is_item =
      let (item, found) = slice_get-inside items number (next-there client number next).1 in
      let when = bare-due number item found in
      let late = next-due landed client number ticks next ahead in
      let now : item.due ≡ ticks = omega (arith, due, when, late) in
      let is : kind ≡ item.kind = is_item item found in
      found ∙ ap (λ n. Some (record { due = n; kind = item.kind })) now
      ∙ ap (λ (k : ItemKind). Some (record { due = ticks; kind = k })) (sym is)

-- ---- as an offer, or an order
pub offer-here : (items : List Item) (frames number ticks : ℕ) (octets : List ℕ) →
    number ≡ place_of is_frame frames items →
    slice_get items number ≡ Some (record { due = ticks; kind = Frame octets }) →
    IsOfferAt items frames (numbered number ticks (Frame octets)) (record { due = ticks; frame = octets })
offer-here items frames number ticks octets at here =
    let found = place-found is_frame items frames (record { due = ticks; kind = Frame octets })
    (sym (ap (slice_get items) at) ∙ here) in
    record {
      there = here;
      is = refl;
      before = offers-size (take number items) ∙ ap (λ n. count_of is_frame (take n items)) at ∙ found.1;
    }

pub order-here : (items : List Item) (commands number ticks : ℕ) (kind : ItemKind) (order : DueCommand) →
    number ≡ place_of is_command commands items → order_of ticks kind ≡ order ∷ [] →
    slice_get items number ≡ Some (record { due = ticks; kind = kind }) →
    IsOrderAt items commands (numbered number ticks kind) order
order-here items commands number ticks kind order at is here =
    let found = place-found is_command items commands (record { due = ticks; kind = kind })
    (sym (ap (slice_get items) at) ∙ here) in
    record {
      there = here;
      is = is;
      before = orders-size (take number items) ∙ ap (λ n. count_of is_command (take n items)) at ∙ found.1;
    }

-- ---- what has landed is the leg's, up to the ticks made
module _ (leg : Leg) (s : Counts) (ticks : ℕ)
    (ahead : AreAhead (dues_of leg.items) ticks s.frames s.commands) where
  offers-after : All (λ (offer : DueFrame). ticks ≤ offer.due) (drop s.frames (offers_of leg.items))
  offers-after k d inside =
      let n : ℕ = s.frames + k in
      let size = length-drop s.frames (offers_of leg.items) in
      let here : slice_get (frame_dues (dues_of leg.items)) n ≡ Some (get_or (offers_of leg.items) n d).due =
      ap (λ l. slice_get l n) (frame-dues leg.items) ∙ slice_get-map (λ (offer : DueFrame). offer.due)
      (offers_of leg.items) n
      ∙ ap (option_map (λ (offer : DueFrame). offer.due))
      (slice_get-get_or (offers_of leg.items) n d (omega arith)) in
      let late = ahead.of_frames n (get_or (offers_of leg.items) n d).due (omega arith) here in
      subst (λ (offer : DueFrame). ticks ≤ offer.due) (sym (get_or-drop s.frames (offers_of leg.items) k d)) late

  orders-after : All (λ (order : DueCommand). ticks ≤ order.due) (drop s.commands (orders_of leg.items))
  orders-after k d inside =
      let n : ℕ = s.commands + k in
      let size = length-drop s.commands (orders_of leg.items) in
      let here : slice_get (command_dues (dues_of leg.items)) n ≡ Some (get_or (orders_of leg.items) n d).due =
      ap (λ l. slice_get l n) (command-dues leg.items) ∙ slice_get-map (λ (order : DueCommand). order.due)
      (orders_of leg.items) n
      ∙ ap (option_map (λ (order : DueCommand). order.due))
      (slice_get-get_or (orders_of leg.items) n d (omega arith)) in
      let late = ahead.of_commands n (get_or (orders_of leg.items) n d).due (omega arith) here in
      subst (λ (order : DueCommand). ticks ≤ order.due) (sym (get_or-drop s.commands (orders_of leg.items) k d)) late

  pub landed-alike : (cells : List (Option Told)) →
      Alike (landed_scenario leg s) cells (scenario_by leg) cells ticks
  landed-alike cells =
      alike-landed (landed_scenario leg s) (scenario_by leg) cells cells ticks
      (first-alike (scenario_by leg) s.commands s.frames ticks orders-after offers-after) refl

-- ---- what the source says of it is what the leg says
met-frame : (core : Terminal) (leg : Leg) (s : Counts) (cells : List (Option Told)) (number : ℕ)
    (octets : List ℕ) → HasMade core (landed_scenario leg s) cells →
    Alike (landed_scenario leg s) cells (scenario_by leg) cells core.ticks → offers_of (take number leg.items)
    ≡ take s.frames (offers_of leg.items) →
    met_by core (Frame octets) ≡ kind_refusal (scenario_by leg) cells core.ticks (take number leg.items)
    (Frame octets)
met-frame core leg s cells number octets made alike earlier =
    ap (λ (waiting : List (List ℕ)). option_map frame_refused (refusal_while waiting octets)) made.stream.waits
    ∙ ap (λ (stream : Stream). option_map frame_refused
    (frame_refusal octets
    (fold offered stream
    (map (λ (offer : DueFrame). offer.frame) (filter (comes_at core.ticks) (take s.frames (offers_of leg.items)))))))
    (alike-stream (landed_scenario leg s) cells (scenario_by leg) cells core.ticks alike)
    ∙ ap (λ (offers : List DueFrame). kind_met offers) (sym earlier)
  where
    kind_met : List DueFrame → Option Refusal
    kind_met offers =
        option_map frame_refused (frame_refusal octets
        (fold offered (stream_before (scenario_by leg) cells core.ticks)
        (map (λ (offer : DueFrame). offer.frame) (filter (comes_at core.ticks) offers))))

met-command : (core : Terminal) (leg : Leg) (s : Counts) (cells : List (Option Told)) (number : ℕ)
    (command : Command) → HasMade core (landed_scenario leg s) cells →
    Alike (landed_scenario leg s) cells (scenario_by leg) cells core.ticks → orders_of (take number leg.items)
    ≡ take s.commands (orders_of leg.items) →
    option_map command_refused (refusal core.lines command core.table.source)
    ≡ option_map command_refused
    (refusal (length leg.config.windows) command
    (source_met (scenario_by leg) cells core.ticks (orders_of (take number leg.items))))
met-command core leg s cells number command made alike earlier =
    ap (λ n. option_map command_refused (refusal n command core.table.source)) made.lines
    ∙ ap (λ (course : Course). option_map command_refused
    (refusal (length leg.config.windows) command course.source)) made.table
    ∙ ap (λ (source : Source). option_map command_refused
    (refusal (length leg.config.windows) command
    (asked_all (length leg.config.windows)
    (map (λ (order : DueCommand). order.command)
    (filter (lands_at (steps_in core.ticks)) (take s.commands (orders_of leg.items)))) source)))
    (alike-after (landed_scenario leg s) cells (scenario_by leg) cells core.ticks (steps_in core.ticks) alike
    (omega arith))
    ∙ ap (λ (orders : List DueCommand). option_map command_refused
    (refusal (length leg.config.windows) command (source_met (scenario_by leg) cells core.ticks orders)))
    (sym earlier)

-- why it is refused, whatever return cells were taken
pub met-item : (leg : Leg) (s : Counts) (landed : Landed) (core : Terminal) (cells : List (Option Told))
    (number : ℕ) (kind : ItemKind) → landed.items ≡ bare_items leg.items →
    AreAhead (dues_of landed.items) core.ticks landed.frames landed.commands →
    HasMade core (landed_scenario leg (counts_by s landed)) cells →
    next_number landed (is_client kind) ≡ Some number →
    slice_get leg.items number ≡ Some (record { due = core.ticks; kind = kind }) →
    met_by core kind ≡ kind_refusal (scenario_by leg) cells core.ticks (take number leg.items) kind
met-item leg s landed core cells number kind bared ahead made next here =
    by-kind kind (next-there leg.items landed bared (is_client kind) number next).0 here
  where
    alike : Alike (landed_scenario leg (counts_by s landed)) cells (scenario_by leg) cells core.ticks
    alike = landed-alike leg (counts_by s landed) core.ticks
        (subst (λ dues. AreAhead dues core.ticks landed.frames landed.commands)
        (ap dues_of bared ∙ bare-dues leg.items) ahead) cells

    by-command : (kind : ItemKind) (command : Command) → number ≡ place_by false landed leg.items →
        order_of core.ticks kind ≡ record { due = core.ticks; command = command } ∷ [] →
        slice_get leg.items number ≡ Some (record { due = core.ticks; kind = kind }) →
        option_map command_refused (refusal core.lines command core.table.source)
        ≡ option_map command_refused (refusal (length leg.config.windows) command
        (source_met (scenario_by leg) cells core.ticks (orders_of (take number leg.items))))
    by-command kind command at is here =
        let order : DueCommand = record { due = core.ticks; command = command } in
        let found = order-at leg.items landed.commands (numbered number core.ticks kind) order
        (order-here leg.items landed.commands number core.ticks kind order at is here) in
        met-command core leg (counts_by s landed) cells number command made alike found.1

    by-kind : (kind : ItemKind) → number ≡ place_by (is_client kind) landed leg.items →
        slice_get leg.items number ≡ Some (record { due = core.ticks; kind = kind }) →
        met_by core kind ≡ kind_refusal (scenario_by leg) cells core.ticks (take number leg.items) kind
    by-kind (Frame octets) at here =
        let found = offer-at leg.items landed.frames (numbered number core.ticks (Frame octets))
        (record { due = core.ticks; frame = octets })
        (offer-here leg.items landed.frames number core.ticks octets at here) in
        met-frame core leg (counts_by s landed) cells number octets made alike found.1
    by-kind (Add line) at here = by-command (Add line) (add line) at refl here
    by-kind (Remove line) at here = by-command (Remove line) (remove line) at refl here

-- ---- what has landed with it: the item is put among the others, and the session has one offer, or one order, more
pub record Leaves (leg : Leg) (was now : Counts) (item : Numbered) : Type 0 where
  pub inserted : IsInserted item (landed_items leg was) (landed_items leg now)
  pub scenario : with_kind (landed_scenario leg was) item.item.due item.item.kind ≡ landed_scenario leg now

leaves-command : (leg : Leg) (s : Counts) (landed : Landed) (number ticks : ℕ) (kind : ItemKind)
    (command : Command) → number ≡ place_by false landed leg.items →
    order_of ticks kind ≡ record { due = ticks; command = command } ∷ [] →
    slice_get leg.items number ≡ Some (record { due = ticks; kind = kind }) →
    IsInserted (numbered number ticks kind) (landed_items leg (counts_by s landed))
    (landed_items leg (next_by false s landed))
    × (with_command (landed_scenario leg (counts_by s landed)) ticks command
    ≡ landed_scenario leg (next_by false s landed))
leaves-command leg s landed number ticks kind command at is here =
    let order : DueCommand = record { due = ticks; command = command } in
    let there = order-here leg.items landed.commands number ticks kind order at is here in
    let found = (order-at leg.items landed.commands (numbered number ticks kind) order there).0 in
    let up : suc landed.commands ≡ landed.commands + 1 = omega arith in (
      landed-command leg (counts_by s landed) (numbered number ticks kind) order there,
      ap (λ (l : List DueCommand). with_items (scenario_by leg) l (take landed.frames (offers_of leg.items)))
          (sym (take-next (orders_of leg.items) landed.commands order found)
          ∙ ap (λ n. take n (orders_of leg.items)) up),
    )

pub leaves : (leg : Leg) (s : Counts) (landed : Landed) (number ticks : ℕ) (kind : ItemKind) →
    number ≡ place_by (is_client kind) landed leg.items →
    slice_get leg.items number ≡ Some (record { due = ticks; kind = kind }) →
    Leaves leg (counts_by s landed) (next_by (is_client kind) s landed) (numbered number ticks kind)
leaves leg s landed number ticks (Frame octets) at here =
    let offer : DueFrame = record { due = ticks; frame = octets } in
    let is = offer-here leg.items landed.frames number ticks octets at here in
    let there = (offer-at leg.items landed.frames (numbered number ticks (Frame octets)) offer is).0 in
    let up : suc landed.frames ≡ landed.frames + 1 = omega arith in
    record {
      inserted = landed-frame leg (counts_by s landed) (numbered number ticks (Frame octets)) offer is;
      scenario = ap (λ (l : List DueFrame). with_items (scenario_by leg)
          (take landed.commands (orders_of leg.items)) l)
          (sym (take-next (offers_of leg.items) landed.frames offer there)
          ∙ ap (λ n. take n (offers_of leg.items)) up);
    }
leaves leg s landed number ticks (Add line) at here =
    let (put, told) = leaves-command leg s landed number ticks (Add line) (add line) at refl here in
    record { inserted = put; scenario = told }
leaves leg s landed number ticks (Remove line) at here =
    let (put, told) = leaves-command leg s landed number ticks (Remove line) (remove line) at refl here in
    record { inserted = put; scenario = told }
