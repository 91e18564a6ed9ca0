-- What one direction of a group holds by its leg and its counts.
use Rattle.std.specs.Prelude.{◌≡◌, ℕ, ◌+◌, ◌-◌, ◌%◌, ◌<◌, ◌≤◌, min, List, [], map, length, take, slice_get}
use Rattle.std.specs.Prelude.{slice_index_or, Option, Some, None}
use Rattle.std.specs.Global.{Vec, Box}
use Rattle.law_model.specs.Common.{Container, Leg, Scenario, steps_in, IsSound, LineCounts, Counts, offers_of, scenario_by}
use Rattle.member_cells.specs.HeldPlaces.{held}
use Rattle.law_model.specs.declared.window_types.Window.{Window}
use Rattle.law_model.specs.members.Damage.{carried}
use Rattle.member_path.specs.failure_window.AgreeingWindows.{AgreeBelow}
use Rattle.member_path.specs.path_delay.CallsOnDelayedLine.{Calls, with_windows}
use Rattle.member_rows.specs.realign_rows.Gather.{Gather, GatherStands as Gathers, line_count}
use Rattle.terminal_source.specs.source_core.Terminal.{Terminal}
use Rattle.terminal_source.specs.source_core.GivenScenario.{SourceStands as HasMade}
use Rattle.terminal_sink.specs.sink_core.Core.{Core, SinkStands as HasTaken}
use Rattle.law_walk.specs.Common.{IsWalked, counts_at, popped_cells, sent_at, delay_on, taken_by, return_ring, inbox}
use Rattle.law_walk.specs.Common.{landed_scenario, told_before, refusals_of, totals_of, delivered_of}
use Rattle.law_walk.specs.Common.{cell_taken, session_of, stream_met}
use Rattle.terminal_group.specs.Item.{bare_items}
use Rattle.terminal_group.specs.Landed.{Landed}
use Rattle.terminal_group.specs.SourceByCounts.{Counted}
use Rattle.terminal_group.specs.declared.landed_counts.LandedCounts.{LandedCounts}
use Rattle.walk_engine.specs.walk_parts.Ringed.{Ringed, ring_of, Has}
use Rattle.walk_engine.specs.walk_parts.Return.{Return}
use Rattle.walk_engine.specs.declared.walk_core.step_answers.StepNote.{StepNote}

-- one direction without its way back: the source side; the frames of the send rings, that of number t at place t modulo
-- 32; the lines; the gathered rows; the sink terminal; how many frames were delivered
pub record Parts : Type 0 where
  pub source : Counted
  pub sent : List (List Container)
  pub lines : List Ringed
  pub rows : Gather
  pub sink : Core
  pub got : ℕ

-- the containers of a frame
abbrev pub frame_in : Vec (Box Container) → List Container
frame_in row = held row.items

-- those of the send rings
abbrev pub sent_frames : Vec (Vec (Box Container)) → List (List Container)
sent_frames sent = map frame_in sent.items

abbrev pub line_counts : Ringed → LineCounts
line_counts line = record { carried = line.carried; popped = line.popped }

-- the counts, where so many return packets have come
abbrev pub counts_of : Parts → ℕ → Counts
counts_of parts backs = record {
  ticks = parts.source.core.ticks;
  frames = parts.source.landed.frames;
  commands = parts.source.landed.commands;
  lines = map line_counts parts.lines;
  rows = parts.sink.taken;
  backs = backs;
}

-- the calls that brought a line where it is, after some carries
abbrev pub calls_on : Leg → ℕ → ℕ → Calls
calls_on leg line carries = record {
  delay = delay_on leg line;
  windows = slice_index_or leg.config.windows line [];
  total = leg.config.ticks;
  containers = taken_by leg line carries;
  flushes = carries - leg.config.ticks;
}

-- and those on a line as it is, with its own windows
abbrev pub calls_of : Leg → ℕ → Ringed → Calls
calls_of leg m line = with_windows (calls_on leg m line.carried) line.core.windows

-- the windows that a leg has of a line, and those of the lines as they are
abbrev pub windows_on : Leg → ℕ → List Window
windows_on leg m = slice_index_or leg.config.windows m []

abbrev pub windows_of : Ringed → List Window
windows_of line = line.core.windows

abbrev pub windows_in : List Ringed → List (List Window)
windows_in lines = map windows_of lines

-- by them the same comes of container t of each line as in the leg
abbrev pub AgreesAt : Leg → ℕ → List (List Window) → Type 0
AgreesAt leg t windows = (m : ℕ) → m < leg.config.lines →
    carried (windows_on leg m) t ≡ carried (slice_index_or windows m []) t

-- a leg of which the packets of the decision steps in some ticks alone tell something
abbrev pub told_leg : Leg → ℕ → Leg
told_leg leg ticks = record leg { tells = take (steps_in ticks) leg.tells }

-- the session of what has landed, whose packets tell what those so far do
abbrev pub told_scenario : Leg → Counts → Scenario
told_scenario leg s = landed_scenario (told_leg leg s.ticks) s

-- ---- each part stands for what the leg and the counts give
pub record HasSource (leg : Leg) (s : Counts) (source : Terminal) : Type 0 where
  pub made : HasMade source (told_scenario leg s) (told_before leg s.ticks)
  pub lines : source.lines ≡ leg.config.lines
  pub lag : source.lag ≡ leg.config.lag
  pub size : source.size ≡ leg.config.size
  pub statuses : source.statuses ≡ leg.config.options.statuses

-- of the containers of the frames, those that their line hasn't carried
pub record HasSent (leg : Leg) (ticks : ℕ) (counts : List LineCounts) (sent : List (List Container)) : Type 0
  where
    pub places : length sent ≡ 32
    pub lines : (k : ℕ) (frame : List Container) → slice_get sent k ≡ Some frame → length frame ≡ leg.config.lines
    pub frames : (t m : ℕ) (frame : List Container) → m < leg.config.lines → (counts_at counts m).carried ≤ t →
        t < ticks → ticks ≤ t + 32 →
        slice_get sent (t % 32) ≡ Some frame → slice_get frame m ≡ Some (sent_at leg m t)

pub record HasLine (leg : Leg) (m : ℕ) (line : Ringed) : Type 0 where
  pub has : Has line (calls_of leg m line)
  pub agrees : AgreeBelow (windows_on leg m) line.core.windows line.core.pushed
  pub ring : ring_of line ≡ leg.config.ring

pub record HasLines (leg : Leg) (lines : List Ringed) : Type 0 where
  pub size : length lines ≡ leg.config.lines
  pub each : (m : ℕ) (line : Ringed) → slice_get lines m ≡ Some line → HasLine leg m line

pub record HasSink (leg : Leg) (s : Counts) (rows : Gather) (sink : Core) : Type 0 where
  pub gathers : Gathers rows (popped_cells leg s.lines)
  pub taken : HasTaken sink (popped_cells leg s.lines)
  pub passed : rows.rows ≡ sink.taken
  pub lines : line_count rows ≡ sink.lines
  pub all : sink.lines ≡ leg.config.lines
  pub size : sink.size ≡ leg.config.size
  pub options : sink.options ≡ leg.config.options

pub record HasBack (leg : Leg) (s : Counts) (back : Return) : Type 0 where
  pub ring : back.ring ≡ return_ring leg s
  pub lost : back.lost ≡ leg.config.lost
  pub inbox : back.inbox ≡ inbox leg s
  pub room : back.room ≡ leg.config.lag + 1

-- how many frames wait, as the next one finds it that lands now
abbrev pub waiting_in : Leg → Counts → ℕ
waiting_in leg s =
    length (stream_met (scenario_by leg) (session_of leg) s.ticks (take s.frames (offers_of leg.items))).waiting

-- how many items were refused
pub record HasCounted (leg : Leg) (s : Counts) (landed : LandedCounts) : Type 0 where
  pub frames : s.frames ≡ (totals_of leg s).frames + landed.refused_frames
  pub commands : s.commands ≡ (totals_of leg s).commands + landed.refused_commands
  pub refused : length (refusals_of leg s) ≡ landed.refused_frames + landed.refused_commands

-- which items there are, which have landed, and which of them were refused
pub record HasLanded (leg : Leg) (s : Counts) (landing : Landed) : Type 0 where
  pub items : landing.items ≡ bare_items leg.items
  pub lines : landing.lines ≡ leg.config.lines
  pub frames : landing.frames ≡ s.frames
  pub commands : landing.commands ≡ s.commands
  pub refusals : landing.refusals ≡ refusals_of leg s

-- the last decision step
abbrev pub note_of : Leg → Option ℕ → Option StepNote
note_of leg None = None
note_of leg (Some packet) = Some (record { packet = packet; back = cell_taken leg packet })

-- a direction of a leg that can be walked, after some events, of which so many have brought a return packet
pub record WayStands (leg : Leg) (backs : ℕ) (parts : Parts) : Type 0 where
  pub sound : IsSound leg
  pub total : parts.source.total ≡ leg.config.ticks
  pub walked : IsWalked leg (counts_of parts backs)
  pub source : HasSource leg (counts_of parts backs) parts.source.core
  pub sent : HasSent leg parts.source.core.ticks (map line_counts parts.lines) parts.sent
  pub lines : HasLines leg parts.lines
  pub agrees : (t : ℕ) → t < parts.source.core.ticks → AgreesAt leg t (windows_in parts.lines)
  pub sink : HasSink leg (counts_of parts backs) parts.rows parts.sink
  pub landed : HasCounted leg (counts_of parts backs) parts.source.landed
  pub counted : parts.got ≡ min (length (delivered_of leg parts.sink.taken)) 18446744073709551615

-- it is one of some leg
abbrev pub StandsForSome : Parts → Type 0
StandsForSome parts = (leg : Leg) × (backs : ℕ) × WayStands leg backs parts
