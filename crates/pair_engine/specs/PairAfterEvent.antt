-- What an event of a pair answers, what it leaves, and which frames it gives.
use Rattle.std.specs.Prelude.{◌≡◌, ◌≤◌, ℕ, List, Option, Some, None}
use Rattle.law_model.specs.Common.{Leg, Due, frame_due, command_due, Counts, dues_of, Start}
use Rattle.law_model.specs.declared.script_types.Script.{Script}
use Rattle.law_model.specs.declared.walk_events.Event.{Event}
use Rattle.law_model.specs.declared.walk_events.Event.TheVariants.{Accept, Command}
use Rattle.law_model.specs.declared.walk_events.StallCause.{StallCause}
use Rattle.law_model.specs.declared.item_refusals.Refusal.{Refusal}
use Rattle.law_pair.specs.Common.{way_of, PairPlan, PairCounts, PairStep, counts_on, left_after, first_due, pair_step}
use Rattle.law_pair.specs.Common.{pair_plan}
use Rattle.law_pair.specs.declared.pair_events.Way.{Way}
use Rattle.law_pair.specs.declared.pair_events.Way.TheVariants.{There, Back}
use Rattle.law_pair.specs.declared.pair_events.PairEvent.{PairEvent}
use Rattle.law_pair.specs.declared.pair_events.PairEvent.TheVariants.{Item, Tick, Carry, Take}
use Rattle.walk_engine.specs.Common.{refusal_in_event, GivesRows}
use Rattle.walk_engine.specs.declared.walk_core.step_answers.Moved.{Moved}
use Rattle.walk_engine.specs.declared.walk_core.step_answers.Moved.TheVariants.{Yes, Stalled, Refused}
use Rattle.pair_engine.specs.declared.pair_answers.PairMoved.{PairMoved}
use Rattle.pair_engine.specs.declared.pair_answers.PairMoved.TheVariants.{Yes as yes, Stalled as stalled, Refused as refused}

-- ---- a pair: its scripts, and the counts of its ways
pub record Paired : Type 0 where
  pub there : Script
  pub back : Script
  pub counts : PairCounts

abbrev pub plan_of : Paired → PairPlan
plan_of pair = pair_plan pair.there pair.back

abbrev pub script_on : Paired → Way → Script
script_on pair There = pair.there
script_on pair Back = pair.back

-- each way is a leg by itself, with twice the lag
abbrev pub leg_on : Paired → Way → Leg
leg_on pair There = way_of pair.there pair.back
leg_on pair Back = way_of pair.back pair.there

-- ---- what an event leaves
abbrev pub step_of : Paired → PairEvent → PairStep
step_of pair event = pair_step (plan_of pair) pair.counts event

abbrev pub with_counts : Paired → PairCounts → Paired
with_counts pair counts = record pair { counts = counts }

abbrev pub after : Paired → PairEvent → Paired
after pair event = with_counts pair (step_of pair event).counts

-- ---- what it answers
-- what a step of one way gave, as a step of the pair
abbrev pub moved_on : Way → Moved → PairMoved
moved_on way Yes = yes
moved_on way (Stalled cause) = stalled way cause
moved_on way (Refused why) = refused why

-- an item that lands is the next frame, or the next command
abbrev pub landing_by : Due → Event
landing_by (frame_due due) = Accept
landing_by (command_due due) = Command

abbrev pub refusal_by : Leg → Counts → Option Due → Option Refusal
refusal_by leg s None = None
refusal_by leg s (Some item) = refusal_in_event leg s (landing_by item)

-- why the next item of a leg is refused, by due tick and of equal ones in item order
abbrev pub next_refusal : Leg → Counts → Option Refusal
next_refusal leg s = refusal_by leg s (first_due (left_after s.frames s.commands (dues_of leg.items)))

-- why the item is refused that an event lands
abbrev pub refusal_in : Paired → PairEvent → Option Refusal
refusal_in pair (Item way) = next_refusal (leg_on pair way) (counts_on pair.counts way)
refusal_in pair Tick = None
refusal_in pair (Carry way line) = None
refusal_in pair (Take way) = None

-- the answer, where the event stalls in a way for a cause, or moves and maybe lands an item that is refused
abbrev pub answer_by : Option (Way × StallCause) → Option Refusal → PairMoved
answer_by (Some cause) why = stalled cause.0 cause.1
answer_by None (Some why) = refused why
answer_by None None = yes

abbrev pub moved_of : Paired → PairEvent → PairMoved
moved_of pair event = answer_by (step_of pair event).cause (refusal_in pair event)

-- ---- the frames that it gives
-- a place of frames is given those of the rows that a way has taken since
abbrev pub GivesWay : {Out : Type 0} → (Out → Start → List (List ℕ) → Type 0) → Out → Out → Paired → Paired → Way →
    Type 0
GivesWay stands_for was now before later way =
    GivesRows stands_for was now (leg_on before way) (counts_on before.counts way).rows
    (counts_on later.counts way).rows

-- no row was taken
pub record SameRows (before later : Paired) : Type 0 where
  pub there : later.counts.there.rows ≡ before.counts.there.rows
  pub back : later.counts.back.rows ≡ before.counts.back.rows

-- neither way has fewer rows taken than before
pub record MoreRows (before later : Paired) : Type 0 where
  pub there : before.counts.there.rows ≤ later.counts.there.rows
  pub back : before.counts.back.rows ≤ later.counts.back.rows
