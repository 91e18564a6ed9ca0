-- The script of what was said: the same configuration, each failure as a window, each item due in the tick in which it
-- was said, and rounds for the ticks that have passed.
use Rattle.std.specs.Prelude.{ℕ, ◌/◌, ◌%◌, ◌==◌, max, List, [], ◌∷◌, ◌++◌, map, replicate, if◌then◌else◌}
use Rattle.law_model.specs.Common.{Leg, most_count}
use Rattle.law_model.specs.declared.script_types.EventLine.{EventLine}
use Rattle.law_model.specs.declared.script_types.EventLine.TheVariants.{Client, Operator, Round}
use Rattle.law_model.specs.declared.script_types.Config.{Config}
use Rattle.law_model.specs.declared.script_types.Script.{Script}
use Rattle.law_live.specs.LiveSayings.{Saying, Live, windows_by, live_of, frames_in, commands_in}
use Rattle.law_live.specs.LiveCounts.{rounds_of}

-- ---- the leg
-- a failure that isn't over ends now
abbrev pub config_by : Config → Live → Config
config_by config live = record config { windows = map (windows_by live.passed) live.courses }

abbrev pub leg_by : Config → Live → Leg
leg_by config live = record { config = config_by config live; items = live.items; tells = [] }

abbrev pub leg_said : Config → List Saying → Leg
leg_said config said = leg_by config (live_of config said)

-- ---- the event lines
-- event lines that try an event so many times, where one has a count of at most 1,000,000
abbrev pub counted : (ℕ → EventLine) → ℕ → List EventLine
counted line n =
    replicate (n / most_count) (line most_count) ++ (if n % most_count == 0 then [] else line (n % most_count) ∷ [])

-- rounds, and each item once
abbrev pub events_by : ℕ → Live → List EventLine
events_by rounds live =
    counted Round rounds ++ counted Client (max 1 (frames_in live)) ++ counted Operator (max 1 (commands_in live))

-- ---- the script, where the ticks that have passed took so many rounds
abbrev pub script_by : Config → ℕ → Live → Script
script_by config rounds live = record {
  config = config_by config live;
  items = live.items;
  events = events_by rounds live;
}

abbrev pub script_said : Config → List Saying → Script
script_said config said = script_by config (rounds_of (leg_said config said) said) (live_of config said)
