-- What a call leaves of one way of a pair.
use Rattle.std.specs.Prelude.{◌≡◌, ℕ, ◌+◌, ◌%◌, ◌==◌, ◌&&◌, nat_lt, if◌then◌else◌, Bool, true, List, Option, Some, None}
use Rattle.std.specs.Prelude.{option_map}
use Rattle.std.specs.List.Sorted.{IsNonDecreasing}
use Rattle.law_model.specs.Common.{Leg, Due, Step, frame_due, command_due, frame_dues, command_dues, dues_of}
use Rattle.law_model.specs.declared.script_types.Item.{Item}
use Rattle.law_model.specs.declared.script_types.Script.{Script}
use Rattle.law_model.specs.declared.walk_events.StallCause.{StallCause}
use Rattle.law_model.specs.session.Scenario.{packets_in}
use Rattle.law_model.specs.declared.item_refusals.Refusal.{Refusal}
use Rattle.terminal_group.specs.Landed.{Landed, next_number, due_at}
use Rattle.law_walk.specs.Common.{walk_plan}
use Rattle.walk_engine.specs.Common.{answer_by, windows_in}
use Rattle.walk_engine.specs.walk_core.WayParts.{WayStands}
use Rattle.walk_engine.specs.declared.walk_core.step_answers.Moved.{Moved}
use Rattle.law_pair.specs.Common.{PairCounts, PairPlan, first_way, full_at, missing_at, or_else, pair_plan, take_one}
use Rattle.law_pair.specs.Common.{tick_cause, way_of}
use Rattle.law_pair.specs.declared.pair_events.Way.{Way}
use Rattle.pair_engine.specs.declared.next_items.NextItem.{NextItem}
use Rattle.pair_engine.specs.declared.pair_way.PairWay.{PairWay}
use Rattle.pair_engine.specs.LivePairs.{LiveBeside, PairAgreesNow, PairLives, PairWalking, WayLives, WayWalking}
use Rattle.pair_engine.specs.LivePairs.{walking_counts, way_walked}
use Rattle.pair_engine.specs.Ways.{way_counts, walking_of, StandsAs, LandedAs}

-- ---- the next item
-- by its due tick
abbrev pub due_by : Bool → ℕ → Due
due_by client due = if client then frame_due due else command_due due

abbrev pub due_of_next : Option NextItem → Option Due
due_of_next None = None
due_of_next (Some next) = Some (due_by next.client next.due)

-- its number and its due tick, and those of the next one of a kind
abbrev pub found_by : Option NextItem → Option (ℕ × ℕ)
found_by None = None
found_by (Some next) = Some (next.number, next.due)

abbrev pub next_in : Landed → Bool → Option (ℕ × ℕ)
next_in landed client = option_map (λ number. (number, due_at landed.items number)) (next_number landed client)

-- the due ticks of frames never fall, nor those of commands
abbrev pub AreInOrder : List Item → Type 0
AreInOrder items = IsNonDecreasing (frame_dues (dues_of items)) × IsNonDecreasing (command_dues (dues_of items))

-- ---- an event of one way
-- it goes as the counts of its leg say, and leaves what they give
pub record Goes (leg : Leg) (now : PairWay) (next : Step) (why : Option Refusal) (answer : Moved) : Type 0 where
  pub stands : StandsAs leg now
  pub landed : LandedAs leg now
  pub counts : way_counts now ≡ next.counts
  pub moved : answer ≡ answer_by next.cause why

-- its ticks and rows, its last decision step, and what goes to the other way and comes from it are as they were
pub record IsStill (was now : WayWalking) : Type 0 where
  pub lag : now.lag ≡ was.lag
  pub said : now.said ≡ was.said
  pub ticks : now.core.source.core.ticks ≡ was.core.source.core.ticks
  pub inbox : now.core.source.inbox ≡ was.core.source.inbox
  pub rows : now.core.sink.taken ≡ was.core.sink.taken
  pub last : now.last ≡ was.last

-- and so are its script and its windows
pub record IsQuiet (was now : PairWay) : Type 0 where
  pub script : now.script ≡ was.script
  pub still : IsStill (walking_of was.live) (walking_of now.live)
  pub windows : windows_in now.live.core.lines ≡ windows_in was.live.core.lines

-- ---- both ways
-- nothing lands, and the windows are as they were
pub record Keeps (was now : WayWalking) : Type 0 where
  pub frames : now.core.source.landed.frames ≡ was.core.source.landed.frames
  pub commands : now.core.source.landed.commands ≡ was.core.source.landed.commands
  pub windows : windows_in now.core.lines ≡ windows_in was.core.lines

-- no row was taken
pub record KeepsRows (was now : PairWalking) : Type 0 where
  pub there : now.there.core.sink.taken ≡ was.there.core.sink.taken
  pub back : now.back.core.sink.taken ≡ was.back.core.sink.taken

-- why no frame is made of either way, where ticks are left and nothing is held
abbrev pub late_cause : PairPlan → PairCounts → Option (Way × StallCause)
late_cause pair s =
    or_else (first_way (full_at pair.there s.there) (full_at pair.back s.back))
    (first_way (missing_at pair.lag s.there) (missing_at pair.lag s.back))

-- nothing stalls a tick, and the lines damage what is made as the two scripts do
pub record CanTickBoth (one other : Script) (pair : PairWalking) : Type 0 where
  pub lives : PairLives one other pair
  pub free : tick_cause (pair_plan one other) (walking_counts pair) ≡ None
  pub agrees : PairAgreesNow one other pair

-- a row of one way, which the other hears
pub record TakesRow (script other : Script) (own beside own_now beside_now : WayWalking) (answer : Moved) : Type 0 where
  pub own_way : WayLives script other beside_now.core.sink.taken own_now
  pub other_way : WayLives other script own_now.core.sink.taken beside_now
  pub own_counts : way_walked own_now ≡ (take_one (walk_plan (way_of script other)) (way_walked own)).counts
  pub other_counts : way_walked beside_now ≡ way_walked beside
  pub moved : answer ≡ answer_by (take_one (walk_plan (way_of script other)) (way_walked own)).cause None

-- a way after a row with which a packet row ends, and the other way, which hasn't heard it yet
pub record EndsPacket (script other : Script) (was own beside : WayWalking) (row : ℕ) : Type 0 where
  pub are : LiveBeside script other was beside
  pub lag : own.lag ≡ script.config.lag
  pub stands : WayStands (way_of script other) (packets_in own.core.sink.taken) own.core
  pub ticks : own.core.source.core.ticks ≡ was.core.source.core.ticks
  pub was_row : was.core.sink.taken ≡ row
  pub row_is : own.core.sink.taken ≡ row + 1
  pub ends : (nat_lt 22 row && row % 16 == 7) ≡ true

-- the other way has heard it
pub record Hears (script other : Script) (own beside beside_now : WayWalking) : Type 0 where
  pub counts : way_walked beside_now ≡ way_walked beside
  pub lives : WayLives other script own.core.sink.taken beside_now
