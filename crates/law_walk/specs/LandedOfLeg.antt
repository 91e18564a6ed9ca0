-- The items of a leg that have landed: which they are, why those are refused that are, and what a walk counts of all
-- that.
use Rattle.std.specs.Prelude.{◌≡◌, ℕ, suc, ◌+◌, ◌-◌, ◌<◌, ◌&&◌, not, nat_lt, Bool, true, false, if◌then◌else◌, List, []}
use Rattle.std.specs.Prelude.{◌∷◌, ◌++◌, map, filter, fold, length, take, slice_get, All, Option, Some, None}
use Rattle.std.specs.Prelude.{option_map, is_none, flat_map}
use Rattle.law_model.specs.Common.{Leg, DueCommand, DueFrame, Scenario, order_of, offer_of, orders_of, offers_of}
use Rattle.law_model.specs.Common.{scenario_by, steps_in, lands_at, comes_at, with_items, Told, Source, after}
use Rattle.law_model.specs.Common.{asked_all, refusal, Stream, frame_refusal, offered, stream_before, Counts, used_in}
use Rattle.law_model.specs.declared.script_types.Item.{Item}
use Rattle.law_model.specs.declared.script_types.ItemKind.{ItemKind}
use Rattle.law_model.specs.declared.item_refusals.Refusal.{Refusal}
use Rattle.law_model.specs.declared.session_totals.Totals.{Totals}
use Rattle.law_model.specs.declared.script_types.ItemKind.TheVariants.{Frame, Add, Remove}
use Rattle.law_model.specs.declared.lcas_states.Command.TheVariants.{Add as add, Remove as remove}
use Rattle.law_model.specs.declared.item_refusals.Refusal.TheVariants.{Frame as frame_fault, Command as command_fault}
use Rattle.law_walk.specs.Walk.{session_of, told_first}
use Rattle.law_walk.specs.DeliveredFrames.{delivered_of}

-- ---- the items that have landed
-- an item, and its number
pub record Numbered : Type 0 where
  pub number : ℕ
  pub item : Item

-- it is the client's
abbrev pub is_client : ItemKind → Bool
is_client (Frame octets) = true
is_client (Add line) = false
is_client (Remove line) = false

abbrev pub with_if : Bool → Numbered → List Numbered → List Numbered
with_if true item items = item ∷ items
with_if false item items = items

-- of items that are numbered from i the first a frames and the first b commands
unfoldable pub landed_from : ℕ → ℕ → ℕ → List Item → List Numbered
landed_from a b i [] = []
landed_from a b i (item ∷ items) =
    if is_client item.kind then with_if (nat_lt 0 a) (record { number = i; item = item })
    (landed_from (a - 1) b (suc i) items)
    else with_if (nat_lt 0 b) (record { number = i; item = item }) (landed_from a (b - 1) (suc i) items)

-- those of a walk, in item order
abbrev pub landed_items : Leg → Counts → List Numbered
landed_items leg s = landed_from s.frames s.commands 0 leg.items

-- the session of these alone
abbrev pub landed_scenario : Leg → Counts → Scenario
landed_scenario leg s =
    with_items (scenario_by leg) (take s.commands (orders_of leg.items)) (take s.frames (offers_of leg.items))

-- the return cells that the decision steps of some ticks have taken
abbrev pub told_before : Leg → ℕ → List (Option Told)
told_before leg ticks = told_first leg (used_in leg.config.lag ticks)

-- an item of a list is this offer, and so many offers are before it; or this order, and so many orders
pub record IsOfferAt (items : List Item) (count : ℕ) (item : Numbered) (offer : DueFrame) : Type 0 where
  pub there : slice_get items item.number ≡ Some item.item
  pub is : offer_of item.item.due item.item.kind ≡ offer ∷ []
  pub before : length (offers_of (take item.number items)) ≡ count

pub record IsOrderAt (items : List Item) (count : ℕ) (item : Numbered) (order : DueCommand) : Type 0 where
  pub there : slice_get items item.number ≡ Some item.item
  pub is : order_of item.item.due item.item.kind ≡ order ∷ []
  pub before : length (orders_of (take item.number items)) ≡ count

-- ---- why an item is refused
-- the stream as a frame finds it that lands in a number of ticks, after these offers
abbrev pub stream_met : Scenario → List (Option Told) → ℕ → List DueFrame → Stream
stream_met scenario cells due earlier =
    fold offered (stream_before scenario cells due) (map (λ offer. offer.frame) (filter (comes_at due) earlier))

-- the source as a command finds it
abbrev pub source_met : Scenario → List (Option Told) → ℕ → List DueCommand → Source
source_met scenario cells due earlier =
    asked_all (length scenario.windows) (map (λ order. order.command) (filter (lands_at (steps_in due)) earlier))
    (after scenario cells (steps_in due))

-- why an item that lands in a number of ticks after these is refused, where it is
abbrev pub kind_refusal : Scenario → List (Option Told) → ℕ → List Item → ItemKind → Option Refusal
kind_refusal scenario cells due earlier (Frame octets) =
    option_map frame_fault (frame_refusal octets (stream_met scenario cells due (offers_of earlier)))
kind_refusal scenario cells due earlier (Add line) =
    option_map command_fault (refusal (length scenario.windows) (add line)
    (source_met scenario cells due (orders_of earlier)))
kind_refusal scenario cells due earlier (Remove line) =
    option_map command_fault (refusal (length scenario.windows) (remove line)
    (source_met scenario cells due (orders_of earlier)))

-- why an item of a leg is
abbrev pub refusal_at : Leg → Numbered → Option Refusal
refusal_at leg item =
    kind_refusal (scenario_by leg) (session_of leg) item.item.due (take item.number leg.items) item.item.kind

abbrev pub refused_by : ℕ → Option Refusal → List (ℕ × Refusal)
refused_by number None = []
refused_by number (Some why) = (number, why) ∷ []

-- of items those that are refused, in their order, and why
abbrev pub refusals_among : Leg → List Numbered → List (ℕ × Refusal)
refusals_among leg items = flat_map (λ item. refused_by item.number (refusal_at leg item)) items

-- and of the items that have landed
abbrev pub refusals_of : Leg → Counts → List (ℕ × Refusal)
refusals_of leg s = refusals_among leg (landed_items leg s)

-- refusals of an item of some number are put in their place among those of other items
pub record IsPlaced (number : ℕ) (put was now : List (ℕ × Refusal)) : Type 0 where
  pub front : List (ℕ × Refusal)
  pub back : List (ℕ × Refusal)
  pub was_so : was ≡ front ++ back
  pub is_so : now ≡ front ++ put ++ back
  pub before : All (λ (refused : ℕ × Refusal). refused.0 < number) front
  pub after : All (λ (refused : ℕ × Refusal). number < refused.0) back

-- ---- totals
abbrev pub is_accepted_frame : Leg → Numbered → Bool
is_accepted_frame leg item = is_client item.item.kind && is_none (refusal_at leg item)

abbrev pub is_accepted_command : Leg → Numbered → Bool
is_accepted_command leg item = not (is_client item.item.kind) && is_none (refusal_at leg item)

-- how many ticks were made and rows taken; of items how many frames and commands are accepted, and how many items are
-- refused; how
-- many frames were delivered
abbrev pub totals_among : Leg → ℕ → ℕ → List Numbered → Totals
totals_among leg ticks rows items = record {
  ticks = ticks;
  taken = rows;
  frames = length (filter (is_accepted_frame leg) items);
  commands = length (filter (is_accepted_command leg) items);
  refused = length (refusals_among leg items);
  got = length (delivered_of leg rows);
}

-- and of the items that have landed
abbrev pub totals_of : Leg → Counts → Totals
totals_of leg s = totals_among leg s.ticks s.rows (landed_items leg s)

-- the totals after one more frame, or one more command, is accepted or refused
abbrev pub with_frame_told : Option Refusal → Totals → Totals
with_frame_told None totals = record totals { frames = totals.frames + 1 }
with_frame_told (Some why) totals = record totals { refused = totals.refused + 1 }

abbrev pub with_command_told : Option Refusal → Totals → Totals
with_command_told None totals = record totals { commands = totals.commands + 1 }
with_command_told (Some why) totals = record totals { refused = totals.refused + 1 }
