-- Worked walks, computed.
use Rattle.std.specs.Prelude.{ℕ, ◌+◌, ◌-◌, min, List, [], ◌∷◌, ◌++◌, replicate, Option}
use Rattle.law_model.specs.Common.{LinePath, Due, frame_due, command_due, Plan, Counts, step, run, begin}
use Rattle.law_model.specs.declared.walk_events.Event.{Event}
use Rattle.law_model.specs.declared.walk_events.Event.TheVariants.{Tick, Carry}
use Rattle.law_model.specs.declared.walk_events.StallCause.{StallCause}

-- a line that never fails
abbrev pub fine : ℕ → ℕ → LinePath
fine total delay = record { delay = delay; given = λ x. min (x - delay) (total + 1); decided = λ y. min y total }

-- 41 ticks of one such line without delay, whose receive ring holds one cell
abbrev pub one_line : ℕ → List Due → Plan
one_line lag items = record { ticks = 41; ring = 1; lag = lag; items = items; paths = fine 41 0 ∷ [] }

-- a frame, and after it a command that is due earlier
abbrev pub two_items : List Due
two_items = frame_due 5 ∷ command_due 0 ∷ []

-- why an event stalls after others
abbrev pub cause_after : Plan → List Event → Event → Option StallCause
cause_after plan events event = (step plan (run plan (begin plan) events) event).cause

-- 24 ticks, and one carry
abbrev pub one_carried : List Event
one_carried = replicate 24 Tick ++ Carry 0 ∷ []

-- the counts when all is done
abbrev pub all_done : Counts
all_done = record {
  ticks = 41;
  frames = 1;
  commands = 1;
  lines = record { carried = 41; popped = 41 } ∷ [];
  rows = 41;
  backs = 2;
}
