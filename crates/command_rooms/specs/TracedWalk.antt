-- A walk that is traced: its turns, and what is told of it so far, as private clauses say it.
use Rattle.std.specs.Prelude.{◌≡◌, ℕ, ◌≤◌, Bool, true, false, not, List, [], ◌∷◌, Option}
use Rattle.law_model.specs.Common.{Appends, leg_of, Plan, round, Start}
use Rattle.law_model.specs.declared.walk_events.Event.{Event}
use Rattle.law_progress.specs.Progress.{HasLine}
use Rattle.text_got.specs.declared.got_text.GotLines.{GotLines}
use Rattle.text_got.specs.TextSoFar.{GivesUp, HasText, has_failed, name_of, start_at}
use Rattle.text_report.specs.ReportLines.{got_texts}
use Rattle.law_walk.specs.Common.{delivered_of}
use Rattle.walk_engine.specs.Common.{Walked}
use Rattle.command_rooms.specs.commands.Trace.{decisions_text}
use Rattle.command_rooms.specs.declared.turns.trace_turns.Tracer.{Tracer}
use Rattle.command_rooms.specs.declared.turns.watched_turns.Turn.{Turn}
use Rattle.command_rooms.specs.declared.turns.watched_turns.Turn.TheVariants.{Try, Round}

-- the events of a turn
abbrev pub events_of : Plan → Turn → List Event
events_of plan (Try event) = event ∷ []
events_of plan Round = round plan

-- a line that it names is one of the plan's
abbrev pub IsTurn : Plan → Turn → Type 0
IsTurn plan (Try event) = HasLine plan event
IsTurn plan Round = Unit {0}

-- ---- what is told. `start` is what there was before the first line of a frame, and `first` are the notes before the
-- first line of a step
-- the lines of the frames of some first rows are written, or wait
abbrev pub HasRows : {K : Type 0} → (K → Option (List ℕ)) → (K → ℕ) → GotLines K → Start → Walked → ℕ → Type 0
HasRows written faults got start walk rows =
    HasText written faults got start (got_texts (delivered_of (leg_of walk.script) rows))

-- no write failed: those of all rows are, and the notes have the lines of all decision steps
pub record TellsAll {K E : Type 0} (k_written : K → Option (List ℕ)) (k_faults : K → ℕ)
    (e_written : E → Option (List ℕ)) (e_faults : E → ℕ) (start : Start) (first : E) (got : GotLines K) (notes : E)
    (walk : Walked) : Type 0 where
  pub whole : has_failed got ≡ false
  pub gives : HasRows k_written k_faults got start walk walk.counts.rows
  pub lines : Appends e_written e_faults first notes (decisions_text walk.script walk.counts.ticks)

-- a write failed, of the frames' lines or on the notes: those of some first rows are, and the notes have a prefix of the
-- lines
pub record TellsPart {K E : Type 0} (k_written : K → Option (List ℕ)) (k_faults : K → ℕ)
    (e_written : E → Option (List ℕ)) (e_faults : E → ℕ) (start : Start) (first : E) (got : GotLines K) (notes : E)
    (walk : Walked) : Type 0 where
  pub rows : ℕ
  pub low : rows ≤ walk.counts.rows
  pub gives : HasRows k_written k_faults got start walk rows
  pub lines : GivesUp (not (has_failed got)) e_written e_faults first notes
      (decisions_text walk.script walk.counts.ticks)

-- by whether a write has failed
abbrev pub IsTold : {K E : Type 0} → (K → Option (List ℕ)) → (K → ℕ) → (E → Option (List ℕ)) → (E → ℕ) → Bool →
    Start → E → GotLines K → E → Walked → Type 0
IsTold k_written k_faults e_written e_faults false start first got notes walk =
    TellsAll k_written k_faults e_written e_faults start first got notes walk
IsTold k_written k_faults e_written e_faults true start first got notes walk =
    TellsPart k_written k_faults e_written e_faults start first got notes walk

-- ---- one who traces: what there was before, with the name of the reference by which notes are written
pub record Untold (E : Type 0) : Type 0 where
  pub start : Start
  pub first : E
  pub name : ℕ

abbrev pub untold : {K E : Type 0} → (K → Option (List ℕ)) → (K → ℕ) → Tracer K E → K → E → Untold E
untold written faults tracer out notes = record {
  start = start_at written faults out (name_of tracer.got);
  first = notes;
  name = tracer.notes.ghost_name;
}

pub record HasTraced {K E : Type 0} (k_written : K → Option (List ℕ)) (k_faults : K → ℕ)
    (e_written : E → Option (List ℕ)) (e_faults : E → ℕ) (tracer : Tracer K E) (before : Untold E) (walk : Walked)
    : Type 0 where
  pub name : tracer.notes.ghost_name ≡ before.name
  pub lines : tracer.lines ≡ walk.script.config.lines
  pub told : IsTold k_written k_faults e_written e_faults tracer.over before.start before.first tracer.got
      tracer.notes.now walk
