-- What a decision step makes of the fields of a terminal, in the ticks in which one is made.
use Rattle.std.specs.Prelude.{◌≡◌, ◌<◌, ◌≤◌, ℕ, ◌-◌, ◌*◌, ◌%◌, ◌==◌, Bool, true, false, List, map, length, All, Option}
use Rattle.std.specs.Prelude.{option_map}
use Rattle.std.specs.List.{range_with_len}
use Rattle.law_model.specs.Common.{BackCell, packet_nibbles, Told, active, told_in, steps_in, Course, called, decides}
use Rattle.law_model.specs.Common.{forward_packet, untold, telling, vc4_size, most_lines}
use Rattle.law_session.proofs.SourceOrderAndPlanLaws.{Fits}
use Rattle.gfp_fill.specs.Queue.{Held}
use Rattle.gfp_fill.specs.SentAreas.{Sender}
use Rattle.member_rows.specs.vcat_interleave.MemberPayloads.{AreLines}
use Rattle.member_rows.specs.vcat_interleave.Spread.{AreDistinct}
use Rattle.terminal_source.specs.source_core.Terminal.{Terminal}

-- a decision step is made in the tick of frame t
abbrev pub is_step : ℕ → Bool
is_step t = t % 16 == 8

abbrev pub table_by : Bool → Option BackCell → Course → Course
table_by true back table = called table (decides (option_map told_in back))
table_by false back table = table

-- the lines that carry payload are those of the table before the step
abbrev pub active_by : Bool → Course → List ℕ → List ℕ
active_by true table lines = active table.source.table
active_by false table lines = lines

-- the nibbles of the packets of a number of lines are those of the table after it, and tell what there is to tell
abbrev pub nibbles_of : Course → Told → ℕ → List (List ℕ)
nibbles_of table told lines =
    map (λ line. packet_nibbles (telling told (forward_packet table.source.table line (table.steps - 1))))
    (range_with_len 0 lines)

abbrev pub nibbles_by : Bool → Course → Told → List (List ℕ) → List (List ℕ)
nibbles_by true table told nibbles = nibbles_of table told (length nibbles)
nibbles_by false table told nibbles = nibbles

-- what is left to tell: its packets have told what there was
abbrev pub left_by : Bool → Told → Told
left_by true told = untold
left_by false told = told

-- each number of some lists has four bits
abbrev pub AreNibbles : List (List ℕ) → Type 0
AreNibbles lists = All (λ nibbles. All (λ nibble. nibble < 16) nibbles) lists

-- lines that can carry payload together: each is one of the group's, none stands twice, and there are no more than
-- there are lines
pub record AreMembers (lines : ℕ) (active : List ℕ) : Type 0 where
  pub among : AreLines lines active
  pub distinct : AreDistinct active
  pub most : length active ≤ lines

-- what the fields of a terminal hold
abbrev pub terminal_of : ℕ → ℕ → ℕ → Held → Sender → Course → List ℕ → List (List ℕ) → Told → Terminal
terminal_of lag size ticks queue sender table active nibbles told = record {
  lines = table.lines;
  lag = lag;
  size = size;
  statuses = table.statuses;
  ticks = ticks;
  queue = queue;
  sender = sender;
  table = table;
  active = active;
  nibbles = nibbles;
  told = told;
}

-- what is true of the fields
pub record IsTerminal (core : Terminal) (octets : ℕ) : Type 0 where
  pub lines : core.lines ≤ most_lines
  pub size : core.size ≤ vc4_size
  pub room : octets ≡ core.size * core.lines
  pub fits : Fits core.lines core.table.source
  pub steps : core.table.steps ≡ steps_in core.ticks
  pub active : AreMembers core.lines core.active
  pub nibbles : length core.nibbles ≡ core.lines
  pub below : AreNibbles core.nibbles
