-- What the events of one direction answer, and what they leave of it.
use Rattle.std.specs.Prelude.{◌≡◌, ◌≢◌, ℕ, ◌+◌, ◌/◌, ◌%◌, ◌==◌, ◌&&◌, ◌≤◌, nat_lt, if◌then◌else◌, map}
use Rattle.std.specs.Prelude.{slice_get, slice_index_or, Option, Some, None, Bool, true, false}
use Rattle.law_model.specs.Common.{BackCell, Leg, Scenario, told_by, untold, passed_on, Counts, held, pop_lines}
use Rattle.law_model.specs.Common.{step}
use Rattle.law_model.specs.declared.script_types.ItemKind.{ItemKind}
use Rattle.law_model.specs.declared.control_packet.Packet.{Packet}
use Rattle.law_model.specs.declared.walk_events.Event.{Event}
use Rattle.law_model.specs.declared.walk_events.Event.TheVariants.{Tick, Take}
use Rattle.law_model.specs.declared.walk_events.StallCause.TheVariants.{Waiting as Stall_waiting}
use Rattle.law_model.specs.session.Scenario.{packets_in}
use Rattle.terminal_source.specs.source_core.GivenScenario.{with_cell, with_told}
use Rattle.terminal_sink.specs.declared.sink_core.sink_terminal.TakeAnswer.{TakeAnswer}
use Rattle.terminal_sink.specs.declared.sink_core.sink_terminal.TakeAnswer.TheVariants.{Taken, Waiting}
use Rattle.terminal_sink.specs.sink_core.TakenAndGiven.{rows_taken}
use Rattle.law_walk.specs.Common.{walk_plan, said_packet, told_before, is_client}
use Rattle.terminal_group.specs.ItemPlaces.{is_frame, is_command, place_of}
use Rattle.walk_engine.specs.declared.walk_core.step_answers.Moved.{Moved}
use Rattle.walk_engine.specs.declared.walk_core.step_answers.Moved.TheVariants.{Yes, Stalled}
use Rattle.walk_engine.specs.walk_core.WalkAfterEvent.{moved_of, counts_after}
use Rattle.walk_engine.specs.walk_core.WayParts.{Parts, counts_of, line_counts, WayStands, AgreesAt, windows_in}

-- an event in a leg answers as its counts say, and leaves what they give
pub record Makes (leg : Leg) (backs : ℕ) (event : Event) (was now : Parts) (answer : Moved) : Type 0 where
  pub stands : WayStands leg backs now
  pub counts : counts_of now backs ≡ counts_after leg (counts_of was backs) event
  pub moved : answer ≡ moved_of leg (counts_of was backs) event

-- ---- an item that lands
-- the place of the next frame of a leg, or of its next command; the number of its items where there is none
abbrev pub next_in : Leg → Counts → Bool → ℕ
next_in leg s true = place_of is_frame s.frames leg.items
next_in leg s false = place_of is_command s.commands leg.items

-- the next item of this kind in a leg is this one, and is due by now
pub record IsDue (leg : Leg) (s : Counts) (kind : ItemKind) : Type 0 where
  pub due : ℕ
  pub by_now : due ≤ s.ticks
  pub next : slice_get leg.items (next_in leg s (is_client kind)) ≡ Some (record { due = due; kind = kind })

-- ---- a frame that is made
-- no item of a leg that is due now hasn't landed
abbrev pub IsNoneHeld : Leg → Counts → Type 0
IsNoneHeld leg s = held s.ticks s.frames s.commands 0 (walk_plan leg).items ≡ None

-- a session whose packet of the next decision step, after n steps, passes this on
abbrev pub with_passed : Scenario → ℕ → Option Packet → Scenario
with_passed scenario n None = scenario
with_passed scenario n (Some packet) = with_told scenario n (told_by packet)

-- what the frame after some ticks is to pass on: where it makes decision step k, what packet k of the leg tells, and
-- else nothing
pub record IsTold (leg : Leg) (ticks : ℕ) (told : Option Packet) : Type 0 where
  pub step : ticks % 16 ≡ 8 → passed_on told ≡ slice_index_or leg.tells (ticks / 16) untold
  pub between : ticks % 16 ≢ 8 → told ≡ None

-- nothing stalls it, the lines damage its containers as the leg does, what its packets pass on is the leg's, and so is
-- the return cell that its decision step takes, where it takes one
pub record CanTick (leg : Leg) (backs : ℕ) (parts : Parts) (told : Option Packet) (cell : Option BackCell) : Type 0
  where
    pub free : None ≡ (step (walk_plan leg) (counts_of parts backs) Tick).cause
    pub agrees : AgreesAt leg parts.source.core.ticks (windows_in parts.lines)
    pub tells : IsTold leg parts.source.core.ticks told
    pub cells : told_before leg (parts.source.core.ticks + 1)
        ≡ with_cell (told_before leg parts.source.core.ticks) cell

-- ---- a row that is taken
abbrev pub take_moved : TakeAnswer → Moved
take_moved (Taken back) = Yes
take_moved (Waiting line) = Stalled (Stall_waiting line)

-- the return packet that is said with row t
abbrev pub said_at : Leg → ℕ → Option Packet
said_at leg t = if nat_lt 22 t && t % 16 == 7 then Some (said_packet leg (packets_in t)) else None

-- the answer, where a line leaves row t open, or none does
abbrev pub take_by : Leg → ℕ → Option ℕ → TakeAnswer
take_by leg t (Some line) = Waiting line
take_by leg t None = Taken (said_at leg t)

-- a Take in a leg moves as its counts say, and says the leg's return packets
pub record Takes (leg : Leg) (backs : ℕ) (was now : Parts) (answer : TakeAnswer) : Type 0 where
  pub makes : Makes leg backs Take was now (take_moved answer)
  pub answers : answer ≡ take_by leg was.sink.taken
      (pop_lines was.sink.taken 0 (walk_plan leg).paths (map line_counts was.lines)).waiting
  pub rows : now.sink.taken ≡ was.sink.taken + rows_taken answer
