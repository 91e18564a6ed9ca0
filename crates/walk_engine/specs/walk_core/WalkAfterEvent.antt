-- What an event of a walk answers, and which frames it gives.
use Rattle.std.specs.Prelude.{ℕ, List, ◌++◌, slice_get, Option, Some, None}
use Rattle.law_model.specs.Common.{Leg, Counts, step, Start}
use Rattle.law_model.specs.declared.script_types.Item.{Item}
use Rattle.law_model.specs.declared.script_types.Script.{Script}
use Rattle.law_model.specs.declared.walk_events.Event.{Event}
use Rattle.law_model.specs.declared.walk_events.Event.TheVariants.{Accept, Tick, Carry, Back, Take, Command}
use Rattle.law_model.specs.declared.walk_events.StallCause.{StallCause}
use Rattle.law_model.specs.declared.item_refusals.Refusal.{Refusal}
use Rattle.law_walk.specs.Common.{walk_plan, refusal_at}
use Rattle.law_walk.specs.DeliveredFrames.{delivered_since}
use Rattle.terminal_group.specs.ItemPlaces.{is_frame, is_command, place_of}
use Rattle.walk_engine.specs.declared.walk_core.step_answers.Moved.{Moved}
use Rattle.walk_engine.specs.declared.walk_core.step_answers.Moved.TheVariants.{Yes, Stalled, Refused}

-- a walk: its script, and its counts
pub record Walked : Type 0 where
  pub script : Script
  pub counts : Counts

-- why an item is refused, where there is one
abbrev pub refusal_of_item : Leg → ℕ → Option Item → Option Refusal
refusal_of_item leg number None = None
refusal_of_item leg number (Some item) = refusal_at leg (record { number = number; item = item })

-- why the item is refused that an event lands
abbrev pub refusal_in_event : Leg → Counts → Event → Option Refusal
refusal_in_event leg s Accept =
    refusal_of_item leg (place_of is_frame s.frames leg.items)
    (slice_get leg.items (place_of is_frame s.frames leg.items))
refusal_in_event leg s Command =
    refusal_of_item leg (place_of is_command s.commands leg.items)
    (slice_get leg.items (place_of is_command s.commands leg.items))
refusal_in_event leg s Tick = None
refusal_in_event leg s (Carry line) = None
refusal_in_event leg s Back = None
refusal_in_event leg s Take = None

-- the answer, where the event stalls for a cause, or moves and maybe lands an item that is refused
abbrev pub answer_by : Option StallCause → Option Refusal → Moved
answer_by (Some cause) why = Stalled cause
answer_by None (Some why) = Refused why
answer_by None None = Yes

abbrev pub moved_of : Leg → Counts → Event → Moved
moved_of leg s event = answer_by (step (walk_plan leg) s event).cause (refusal_in_event leg s event)

-- the counts after an event
abbrev pub counts_after : Leg → Counts → Event → Counts
counts_after leg s event = (step (walk_plan leg) s event).counts

-- a place of frames is given those of more rows: behind each start it stands for what it stood for, followed by them
abbrev pub GivesRows : {Out : Type 0} → (Out → Start → List (List ℕ) → Type 0) → Out → Out → Leg → ℕ → ℕ → Type 0
GivesRows stands_for was now leg before rows =
    (start : Start) (given : List (List ℕ)) → stands_for was start given →
    stands_for now start (given ++ delivered_since leg before rows)
