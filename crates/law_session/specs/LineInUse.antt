-- G.7042: when a line that was added carries payload.
use Rattle.std.specs.Prelude.{◌≡◌, ℕ, ◌+◌, ◌-◌, ◌*◌, ◌<◌, ◌≤◌, true, false, List, Option, Some, length, slice_get}
use Rattle.law_model.specs.Common.{IsStatuses, Scenario, is_line_up, is_read, is_lost, member_of, Table, Told}
use Rattle.law_model.specs.Common.{table_of, session_cells, most_lines}
use Rattle.law_model.specs.declared.lcas_states.Command.{Command}
use Rattle.law_model.specs.declared.lcas_states.Command.TheVariants.{Add as add}
use Rattle.law_model.specs.declared.lcas_states.Standing.TheVariants.{Norm as normal, Add as adding}
use Rattle.law_model.specs.source.Source.{carried}

-- a line is in NORM
abbrev pub IsInUse : Table → ℕ → Type 0
IsInUse table line = (sq : ℕ) × (slice_get table.order sq ≡ Some (member_of line normal))

-- a line is in ADD
abbrev pub IsAdded : Table → ℕ → Type 0
IsAdded table line = (sq : ℕ) × (slice_get table.order sq ≡ Some (member_of line adding))

-- a line is in use in a packet from one number on and before another
pub record IsUsedBefore (scenario : Scenario) (cells : List (Option Told)) (line first i : ℕ) : Type 0 where
  pub packet : ℕ
  pub from : first ≤ packet
  pub before : packet < i
  pub in_use : IsInUse (table_of scenario cells packet) line

-- in a session a line is in use by a packet
abbrev pub IsUsedBy : Scenario → ℕ → ℕ → ℕ → Type 0
IsUsedBy scenario line first last = IsUsedBefore scenario (session_cells scenario) line first (last + 1)

-- step first carries out the adding of a line, and no further command is carried out up to a step, before the line is
-- in use
pub record AddsAlone (scenario : Scenario) (cells : List (Option Told)) (line first last : ℕ) : Type 0 where
  pub added : carried scenario cells first ≡ Some (add line)
  pub alone : (i : ℕ) (command : Command) → first < i → i ≤ last →
      carried scenario cells i ≡ Some command → IsUsedBefore scenario cells line first i

-- a number of return packets from a first one on are not lost
abbrev pub AllCome : Scenario → ℕ → ℕ → Type 0
AllCome scenario first count = (k : ℕ) → first ≤ k → k < first + count → is_lost scenario k ≡ false

-- a number of packets of a line from a first one on can be read, and the line is up at each; or none of them can
abbrev pub IsSeen : Scenario → ℕ → ℕ → Type 0
IsSeen scenario line k = (is_read scenario line k ≡ true) × (is_line_up scenario line k ≡ true)

abbrev pub AllSeen : Scenario → ℕ → ℕ → ℕ → Type 0
AllSeen scenario line first count = (k : ℕ) → first ≤ k → k < first + count → IsSeen scenario line k

abbrev pub NoneRead : Scenario → ℕ → ℕ → ℕ → Type 0
NoneRead scenario line first count = (k : ℕ) → first ≤ k → k < first + count → is_read scenario line k ≡ false

-- the limits of a session
pub record HasLimits (scenario : Scenario) : Type 0 where
  pub lag : 0 < scenario.lag
  pub lines : length scenario.windows ≤ most_lines
  pub statuses : IsStatuses scenario.options.statuses

-- packet k begins before the session ends
abbrev pub Begins : Scenario → ℕ → Type 0
Begins scenario k = 16 * k + 8 < scenario.ticks

-- the packet that ends the first round of statuses from a packet on; and the step that takes its return packet, from
-- which a second round may begin
abbrev pub round_end : Scenario → ℕ → ℕ
round_end scenario first = first + scenario.options.statuses - 1

abbrev pub known_by : Scenario → ℕ → ℕ
known_by scenario first = round_end scenario first + scenario.lag

-- an add of a line is carried out in a step, and nothing comes between: in as many packets from that step on as tell
-- all statuses each line in ADD is up and can be read, and their return packets come. How the lines in NORM and DNU
-- fare doesn't matter
pub record AddsUndamaged (scenario : Scenario) (first line : ℕ) : Type 0 where
  pub limits : HasLimits scenario
  pub begins : Begins scenario (known_by scenario first)
  pub adds : AddsAlone scenario (session_cells scenario) line first (known_by scenario first)
  pub come : AllCome scenario first scenario.options.statuses
  pub read : (other : ℕ) → IsAdded (table_of scenario (session_cells scenario) first) other →
      AllSeen scenario other first scenario.options.statuses

-- an add of a line that is up and can be read is carried out in a step, and in as many packets from that step on as
-- tell all statuses no other line in ADD can be read
pub record AddsAmongSilent (scenario : Scenario) (first line : ℕ) : Type 0 where
  pub limits : HasLimits scenario
  pub begins : Begins scenario (known_by scenario (known_by scenario first))
  pub adds : AddsAlone scenario (session_cells scenario) line first (known_by scenario (known_by scenario first))
  pub come : AllCome scenario first (known_by scenario scenario.options.statuses)
  pub read : AllSeen scenario line first (known_by scenario scenario.options.statuses)
  pub others : (other : ℕ) → IsAdded (table_of scenario (session_cells scenario) first) other → (other ≡ line → ⊥) →
      NoneRead scenario other first scenario.options.statuses
