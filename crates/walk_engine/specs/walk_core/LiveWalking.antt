-- A walk without its script: what it holds, the legs for which it stands, and what its calls do in each of them.
use Rattle.std.specs.Prelude.{◌≡◌, ℕ, List, [], ◌∷◌, Option}
use Rattle.law_model.specs.Common.{Leg, Counts, IsSound, run, carries_from}
use Rattle.law_model.specs.declared.script_types.Config.{Config}
use Rattle.law_model.specs.declared.control_packet.Packet.{Packet}
use Rattle.law_model.specs.declared.walk_events.Event.{Event}
use Rattle.law_model.specs.declared.walk_events.Event.TheVariants.{Tick}
use Rattle.law_walk.specs.Common.{walk_plan, last_packet}
use Rattle.terminal_group.specs.Landed.{Landed}
use Rattle.walk_engine.specs.walk_parts.Return.{path_of}
use Rattle.walk_engine.specs.declared.walk_core.step_answers.Moved.{Moved}
use Rattle.walk_engine.specs.declared.walk_core.step_answers.StepNote.{StepNote}
use Rattle.walk_engine.specs.walk_core.WalkAfterEvent.{counts_after, moved_of}
use Rattle.walk_engine.specs.walk_core.WayParts.{Parts, WayStands, HasBack, HasLanded, counts_of, note_of}
use Rattle.walk_engine.specs.walk_core.WayParts.{AgreesAt, windows_in}
use Rattle.walk_engine.specs.walk_core.EventAnswers.{IsNoneHeld}

-- its direction; the return packets that were said and haven't come; the last decision step
pub record Walking : Type 0 where
  pub way : Parts
  pub ring : List Packet
  pub last : Option StepNote

abbrev pub walking_of : Parts → List Packet → Option StepNote → Walking
walking_of way ring last = record { way = way; ring = ring; last = last }

-- the counts: each return packet that has come is in the inbox, or was taken from it
abbrev pub walking_counts : Walking → Counts
walking_counts live = counts_of live.way live.way.source.inbox.come

-- a leg over a network, whatever lands in it and whenever its lines are damaged; its packets tell nothing
pub record IsLegOver (config : Config) (leg : Leg) : Type 0 where
  pub sound : IsSound leg
  pub network : leg.config ≡ record config { windows = leg.config.windows }
  pub quiet : leg.tells ≡ []

-- it stands for a leg: so the leg went, as far as its counts say. Many legs may have gone so, which differ in what comes
-- later
pub record LiveStands (leg : Leg) (live : Walking) : Type 0 where
  pub stands : WayStands leg live.way.source.inbox.come live.way
  pub back : HasBack leg (walking_counts live) (path_of live.ring live.way.source.inbox)
  pub noted : live.last ≡ note_of leg (last_packet live.way.source.core.ticks)
  pub quiet : leg.tells ≡ []

-- it stands for some leg
abbrev pub IsLive : Walking → Type 0
IsLive live = (leg : Leg) × LiveStands leg live

-- of the containers that are made next, its lines' windows say what the leg's do
abbrev pub AgreesNow : Leg → Walking → Type 0
AgreesNow leg live = AgreesAt leg live.way.source.core.ticks (windows_in live.way.lines)

-- and nothing that is due now is held in it
abbrev pub IsReady : Walking → Type 0
IsReady live = (leg : Leg) × LiveStands leg live × IsNoneHeld leg (walking_counts live) × AgreesNow leg live

-- an event in a leg answers as its counts say, and leaves what they give
pub record LiveMakes (leg : Leg) (event : Event) (was now : Walking) (answer : Moved) : Type 0 where
  pub stands : LiveStands leg now
  pub counts : walking_counts now ≡ counts_after leg (walking_counts was) event
  pub moved : answer ≡ moved_of leg (walking_counts was) event

-- each line was tried once, the return path, and a row
pub record LiveFinishes (leg : Leg) (was now : Walking) : Type 0 where
  pub stands : LiveStands leg now
  pub counts : walking_counts now ≡ run (walk_plan leg) (walking_counts was) (carries_from 0 (walk_plan leg).paths)

-- and a tick before them
pub record LiveRounds (leg : Leg) (was now : Walking) : Type 0 where
  pub stands : LiveStands leg now
  pub counts : walking_counts now
      ≡ run (walk_plan leg) (walking_counts was) (Tick ∷ carries_from 0 (walk_plan leg).paths)

-- a walk of a leg of which all items and all windows are known
pub record IsWalk (leg : Leg) (live : Walking) (landing : Landed) : Type 0 where
  pub stands : LiveStands leg live
  pub known : (t : ℕ) → AgreesAt leg t (windows_in live.way.lines)
  pub landed : HasLanded leg (walking_counts live) landing
