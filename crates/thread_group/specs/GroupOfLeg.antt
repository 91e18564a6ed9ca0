-- A group of a leg over its rings: what is known of it whenever the lock is free.
use Rattle.std.specs.Prelude.{◌≡◌, ℕ, ◌+◌, ◌≤◌, List, [], ◌∷◌, drop, length, slice_get, take, sum_by, Option, Some}
use Rattle.std.specs.Prelude.{filter, not, ◌&&◌, is_none, flat_map}
use Rattle.law_model.specs.Common.{Container, BackCell, Leg, DueFrame, scenario_by, offers_of, orders_of, Told}
use Rattle.law_model.specs.Common.{Counts}
use Rattle.std.specs.List.Sorted.{IsNonDecreasingBy}
use Rattle.law_model.specs.declared.script_types.Item.{Item}
use Rattle.law_model.specs.declared.script_types.ItemKind.{ItemKind}
use Rattle.law_model.specs.declared.item_refusals.Refusal.{Refusal}
use Rattle.thread_rings.specs.EndsOfRing.{OutEnd, InEnd}
use Rattle.terminal_source.specs.source_core.GivenScenario.{SourceStands as HasMade}
use Rattle.law_walk.specs.Common.{Numbered, is_client, landed_items, landed_scenario, kind_refusal, refused_by}
use Rattle.thread_group.specs.Journal.{of_client, of_operator}
use Rattle.thread_group.specs.GroupRings.{SameOuts, SameIns}
use Rattle.thread_group.specs.GroupParts.{AreSent, ArePast}
use Rattle.thread_group.specs.declared.group_state.GroupState.{GroupState}
use Rattle.thread_group.specs.Group.{IsOf, ticks_of, frames_of, commands_of, journal_of, slots_of, bytes_of}
use Rattle.thread_group.specs.Group.{refusals_of, taken_of, source_of}

-- how many ticks were made and items have landed
abbrev pub counts_of : GroupState → Counts
counts_of g = record {
  ticks = ticks_of g;
  frames = frames_of g;
  commands = commands_of g;
  lines = [];
  rows = 0;
  backs = 0;
}

-- ---- the items of a leg, where its return cells tell this
-- why an item is refused, where it is
abbrev pub refusal_by : Leg → List (Option Told) → Numbered → Option Refusal
refusal_by leg cells item =
    kind_refusal (scenario_by leg) cells item.item.due (take item.number leg.items) item.item.kind

-- of items those that are refused, in their order, and why
abbrev pub refusals_by : Leg → List (Option Told) → List Numbered → List (ℕ × Refusal)
refusals_by leg cells items = flat_map (λ item. refused_by item.number (refusal_by leg cells item)) items

-- those that are accepted
abbrev pub accepted_frames_by : Leg → List (Option Told) → List Numbered → List Numbered
accepted_frames_by leg cells items =
    filter (λ item. is_client item.item.kind && is_none (refusal_by leg cells item)) items

abbrev pub accepted_commands_by : Leg → List (Option Told) → List Numbered → List Numbered
accepted_commands_by leg cells items =
    filter (λ item. not (is_client item.item.kind) && is_none (refusal_by leg cells item)) items

-- how many octets some frames have
abbrev pub octets_in : List DueFrame → ℕ
octets_in offers = sum_by (λ (offer : DueFrame). length offer.frame) offers

-- ---- the group
-- an item that is submitted is the one of its number in the leg, where there is one
abbrev pub IsItemOf : Leg → ℕ → ItemKind → Type 0
IsItemOf leg number kind = (item : Item) → slice_get leg.items number ≡ Some item → kind ≡ item.kind

-- each entry is the item of its number
abbrev pub AreItemsOf : Leg → List Numbered → Type 0
AreItemsOf leg entries = (i : ℕ) (entry : Numbered) → slice_get entries i ≡ Some entry →
    slice_get leg.items entry.number ≡ Some entry.item

-- there is room in the journal for all items that haven't landed
pub record HasJournalRoom (leg : Leg) (g : GroupState) : Type 0 where
  pub entries : length (drop (frames_of g) (offers_of leg.items)) + length
      (drop (commands_of g) (orders_of leg.items)) ≤ slots_of g
  pub octets : octets_in (drop (frames_of g) (offers_of leg.items)) ≤ bytes_of g

-- what has come of the leg so far: no more has landed than there is; of each kind the entries are the accepted ones of
-- its items that have landed, in order, none stands behind one that landed later, and the refusals are those of these
-- items, by the return cells that decision steps have taken; and each send ring has passed the leg's containers of the
-- frames made
pub record HasLandedOf (leg : Leg) (g : GroupState) : Type 0 where
  pub entries : AreItemsOf leg (journal_of g)
  pub past : ArePast (ticks_of g) (landed_items leg (counts_of g))
  pub most_frames : frames_of g ≤ length (offers_of leg.items)
  pub most_commands : commands_of g ≤ length (orders_of leg.items)
  pub refusals : refusals_of g ≡ refusals_by leg (taken_of g) (landed_items leg (counts_of g))
  pub frames : of_client (journal_of g) ≡ accepted_frames_by leg (taken_of g) (landed_items leg (counts_of g))
  pub commands : of_operator (journal_of g) ≡ accepted_commands_by leg (taken_of g) (landed_items leg (counts_of g))
  pub order : IsNonDecreasingBy (λ (entry : Numbered). entry.item.due) (journal_of g)
  pub sent : AreSent (scenario_by leg) (taken_of g) (ticks_of g) g.tx.items
  pub made : ∥ HasMade (source_of g) (landed_scenario leg (counts_of g)) (taken_of g) ∥₁

-- a group is bound to a leg and to the ends of its rings as they were made
pub record IsBound (leg : Leg) (tx : List (OutEnd Container)) (back : List (InEnd BackCell))
    (g : GroupState) : Type 0 where
  pub of_script : IsOf leg g
  pub sends : SameOuts tx g.tx.items
  pub returns : SameIns back (g.back ∷ [])
  pub room : HasJournalRoom leg g
  pub landed : HasLandedOf leg g
