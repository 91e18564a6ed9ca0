-- A pair without its scripts: what it holds, the pairs of scripts for which it stands, and what its calls do in each of
-- them.
use Rattle.std.specs.Prelude.{◌≡◌, ℕ, ◌≤◌, List, if◌then◌else◌, Option, option_map}
use Rattle.law_model.specs.Common.{Counts, Due, command_due, frame_due, used_in}
use Rattle.law_model.specs.declared.window_types.Window.{Window}
use Rattle.law_model.specs.declared.script_types.Config.{Config}
use Rattle.law_model.specs.declared.script_types.ItemKind.{ItemKind}
use Rattle.law_model.specs.declared.script_types.Script.{Script}
use Rattle.law_model.specs.session.Scenario.{packets_in}
use Rattle.law_walk.specs.Common.{is_client, last_packet}
use Rattle.law_pair.specs.Common.{IsPair, IsPairWalked, PairCounts, counts_on, landed, pair_plan}
use Rattle.law_pair.specs.Common.{pair_step, with_counts}
use Rattle.law_pair.specs.declared.pair_events.Way.{Way}
use Rattle.law_pair.specs.declared.pair_events.Way.TheVariants.{There, Back}
use Rattle.law_pair.specs.declared.pair_events.PairEvent.TheVariants.{Item, Tick}
use Rattle.law_live.specs.Common.{leg_on}
use Rattle.walk_engine.specs.Common.{AgreesAt, IsDue, IsNoneHeld, Parts, counts_of, note_of, windows_in}
use Rattle.walk_engine.specs.declared.walk_core.step_answers.StepNote.{StepNote}
use Rattle.walk_engine.specs.walk_core.WayParts.{WayStands}
use Rattle.pair_engine.specs.ToldAndHeard.{CellShown, Meets, Said, cell_shown}

-- ---- what it holds
-- of a way: its direction; the return packets that were said and no packet of the other way has told; the lag, of which
-- its direction has twice as much; its last decision step
pub record WayWalking : Type 0 where
  pub core : Parts
  pub said : Said
  pub lag : ℕ
  pub last : Option StepNote

pub record PairWalking : Type 0 where
  pub there : WayWalking
  pub back : WayWalking

abbrev pub walking_on : PairWalking → Way → WayWalking
walking_on pair There = pair.there
walking_on pair Back = pair.back

-- the other way
abbrev pub way_beside : Way → Way
way_beside There = Back
way_beside Back = There

-- the counts of a way: each return packet that its sink said has come; and those of both
abbrev pub way_walked : WayWalking → Counts
way_walked own = counts_of own.core (packets_in own.core.sink.taken)

abbrev pub walking_counts : PairWalking → PairCounts
walking_counts pair = record { there = way_walked pair.there; back = way_walked pair.back }

-- the windows of the lines of a way
abbrev pub windows_of_way : PairWalking → Way → List (List Window)
windows_of_way pair way = windows_in (walking_on pair way).core.lines

-- what is shown of a decision step: its number, and the return cell that it took, where it took one
pub record NoteShown : Type 0 where
  pub packet : ℕ
  pub back : Option (Option CellShown)

abbrev pub note_shown : StepNote → NoteShown
note_shown note = record { packet = note.packet; back = option_map cell_shown note.back }

-- the same is shown of two decision steps, or there is neither. A source hears a return packet in a control packet of
-- the other way, whose other fields aren't those of the session's return packet, so the notes themselves may differ
abbrev pub IsShownAs : Option StepNote → Option StepNote → Type 0
IsShownAs note other = option_map note_shown note ≡ option_map note_shown other

-- ---- the pairs of scripts for which it stands
-- over two networks, whatever lands in either way and whenever its lines are damaged
pub record IsPairOver (there back : Config) (one other : Script) : Type 0 where
  pub pair : IsPair one other
  pub one_network : one.config ≡ record there { windows = one.config.windows }
  pub other_network : other.config ≡ record back { windows = other.config.windows }

-- a way of a script, beside the other script, of which so many rows are taken
pub record WayLives (script other : Script) (other_rows : ℕ) (own : WayWalking) : Type 0 where
  pub lag : own.lag ≡ script.config.lag
  pub stands : WayStands (leg_on script other There) (packets_in own.core.sink.taken) own.core
  pub meets : Meets script other own.core.sink.taken other_rows own.core.source.core.ticks own.said
      own.core.source.inbox
  pub noted : IsShownAs own.last (note_of (leg_on script other There) (last_packet own.core.source.core.ticks))

-- it stands for two scripts: so they went, as far as its counts say. Many pairs may have gone so, which differ in what
-- comes later
pub record PairLives (one other : Script) (pair : PairWalking) : Type 0 where
  pub fits : IsPair one other
  pub walked : IsPairWalked one other (walking_counts pair)
  pub there_way : WayLives one other pair.back.core.sink.taken pair.there
  pub back_way : WayLives other one pair.there.core.sink.taken pair.back

-- for some
abbrev pub IsLivePair : PairWalking → Type 0
IsLivePair pair = (one : Script) × (other : Script) × PairLives one other pair

-- a way and the other one, whichever they are: they tick together, and nothing is told of the one that wasn't said
pub record LiveBeside (script other : Script) (own beside : WayWalking) : Type 0 where
  pub pair : IsPair script other
  pub own_way : WayLives script other beside.core.sink.taken own
  pub other_way : WayLives other script own.core.sink.taken beside
  pub together : own.core.source.core.ticks ≡ beside.core.source.core.ticks
  pub told : used_in script.config.lag own.core.source.core.ticks ≤ packets_in own.core.sink.taken

-- ---- an item
abbrev pub due_as : ItemKind → ℕ → Due
due_as kind due = if is_client kind then frame_due due else command_due due

-- the next item of a way of two scripts is of this kind, and it lands now
pub record LandsNext (one other : Script) (way : Way) (s : PairCounts) (kind : ItemKind) : Type 0 where
  pub due : IsDue (leg_on one other way) (counts_on s way) kind
  pub lands : (pair_step (pair_plan one other) s (Item way)).counts
      ≡ with_counts way (landed (due_as kind 0) (counts_on s way)) s

-- ---- a round
-- of the containers that are made next, the windows of its lines say what those of the scripts do
abbrev pub PairAgreesNow : Script → Script → PairWalking → Type 0
PairAgreesNow one other pair = (way : Way) →
    AgreesAt (leg_on one other way) (counts_on (walking_counts pair) way).ticks (windows_of_way pair way)

-- no item of either way that is due now hasn't landed
abbrev pub AreNoneHeld : Script → Script → PairCounts → Type 0
AreNoneHeld one other s = (way : Way) → IsNoneHeld (leg_on one other way) (counts_on s way)

-- so far it stands for them, nothing is held in them, and they say the same of what is made next
pub record CanTurn (one other : Script) (pair : PairWalking) : Type 0 where
  pub lives : PairLives one other pair
  pub free : AreNoneHeld one other (walking_counts pair)
  pub agrees : PairAgreesNow one other pair

-- what a call leaves that goes on to these counts
pub record GoesOn (one other : Script) (next : PairCounts) (now : PairWalking) : Type 0 where
  pub lives : PairLives one other now
  pub counts : walking_counts now ≡ next

-- a tick of both ways was tried
abbrev pub TicksBoth : Script → Script → PairWalking → PairWalking → Type 0
TicksBoth one other was now = GoesOn one other (pair_step (pair_plan one other) (walking_counts was) Tick).counts now

-- the windows of no line have changed
abbrev pub SameWindows : PairWalking → PairWalking → Type 0
SameWindows was now = (way : Way) → windows_of_way now way ≡ windows_of_way was way
