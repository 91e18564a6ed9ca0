-- The walk in numbers of a script: its lines as paths, whose cells come of the containers that are sent.
use Rattle.std.specs.Prelude.{ℕ, ◌+◌, ◌-◌, ◌*◌, ◌≤◌, max, min, List, [], ◌∷◌, map, length, take}
use Rattle.member_cells.specs.declared.containers_and_cells.Container.{Container}
use Rattle.member_cells.specs.declared.containers_and_cells.Cell.{Cell}
use Rattle.law_model.specs.declared.window_types.Window.{Window}
use Rattle.law_model.specs.declared.window_types.Carried.{Carried}
use Rattle.law_model.specs.declared.script_types.Config.{Config}
use Rattle.law_model.specs.declared.script_types.Item.{Item}
use Rattle.law_model.specs.members.Damage.{carried, slip_of}
use Rattle.law_model.specs.members.Path.{cells}
use Rattle.law_model.specs.members.CellVerdicts.{LineLock, unlocked, begun, locked, over, Reading, reading_of}
use Rattle.law_model.specs.session.Counts.{LinePath, dues_of, Plan}

-- how many numbers are decided, of a total, where so far a count of them has a verdict: End decides all
abbrev pub decided_by : ℕ → LineLock → ℕ → ℕ
decided_by total unlocked count = count
decided_by total (begun octet) count = count
decided_by total (locked mfi1) count = count
decided_by total over count = total

abbrev pub decided_in : ℕ → Reading → ℕ
decided_in total reading = decided_by total reading.lock (length reading.verdicts)

-- all cells that a line gives
abbrev pub all_cells : (ℕ → Carried) → ℕ → List Container → List Cell
all_cells carries delay containers =
    cells carries delay (length containers) containers (length containers + delay + 1)

-- a line in numbers
abbrev pub path_of : (ℕ → Carried) → ℕ → List Container → LinePath
path_of carries delay containers = record {
  delay = delay;
  given = λ x. length (cells carries delay (length containers) containers x);
  decided = λ y. decided_in (length containers) (reading_of (take y (all_cells carries delay containers)));
}

-- line by line: its windows, its delay and the containers that it is sent
abbrev pub paths_of : List (List Window) → List ℕ → List (List Container) → List LinePath
paths_of [] delays sent = []
paths_of (windows ∷ lists) [] sent = []
paths_of (windows ∷ lists) (delay ∷ delays) [] = []
paths_of (windows ∷ lists) (delay ∷ delays) (containers ∷ sent) =
    path_of (carried windows) delay containers ∷ paths_of lists delays sent

abbrev pub plan_of : Config → List Item → List (List Container) → Plan
plan_of config items sent = record {
  ticks = config.ticks;
  ring = config.ring;
  lag = config.lag;
  items = dues_of items;
  paths = paths_of config.windows config.delays sent;
}

-- ---- whether delays, slips and lag fit the rings
-- the greatest of them; 0 where there is none
abbrev pub greatest : List ℕ → ℕ
greatest [] = 0
greatest (n ∷ ns) = max n (greatest ns)

-- the least of a number and others
abbrev pub least_or : ℕ → List ℕ → ℕ
least_or n [] = n
least_or n (m ∷ ns) = min n (least_or m ns)

-- the least of them; 0 where there is none
abbrev pub least : List ℕ → ℕ
least [] = 0
least (n ∷ ns) = least_or n ns

abbrev pub greatest_slip : List (List Window) → ℕ
greatest_slip lists = greatest (map slip_of lists)

-- a receive ring holds what the slowest line is after the fastest
abbrev pub FitsRing : Config → Type 0
FitsRing config = greatest config.delays - least config.delays + greatest_slip config.windows + 1 ≤ config.ring

-- a return packet has come when the decision step that takes it is made
abbrev pub FitsLag : Config → Type 0
FitsLag config = 16 + greatest config.delays + greatest_slip config.windows ≤ 16 * config.lag
