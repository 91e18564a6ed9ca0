-- A line, and the calls on it.
use Rattle.std.specs.Prelude.{◌≡◌, ℕ, suc, ◌+◌, ◌-◌, ◌<◌, ◌≤◌, min, List, [], ◌∷◌, ◌++◌, length, drop}
use Rattle.law_model.specs.Common.{Container, Cell, cells}
use Rattle.law_model.specs.declared.window_types.Window.{Window}
use Rattle.law_model.specs.members.Damage.{carried}
use Rattle.member_path.specs.failure_window.OpenWindows.{opened_at, closed_at}

-- what a line holds: its delay in containers, its windows and how many containers it carries in all; the containers
-- that are on
-- their way, and how often it was pushed and flushed
pub record Line : Type 0 where
  pub delay : ℕ
  pub windows : List Window
  pub total : ℕ
  pub stored : List Container
  pub pushed : ℕ
  pub flushed : ℕ

-- the calls on a line: at first its delay, its windows and how many containers it carries in all, then a push for each
-- of these
-- containers, and flushes
pub record Calls : Type 0 where
  pub delay : ℕ
  pub windows : List Window
  pub total : ℕ
  pub containers : List Container
  pub flushes : ℕ

abbrev pub opened : ℕ → List Window → ℕ → Calls
opened delay windows total = record { delay = delay; windows = windows; total = total; containers = []; flushes = 0 }

abbrev pub and_push : Calls → Container → Calls
and_push calls container = record {
  delay = calls.delay;
  windows = calls.windows;
  total = calls.total;
  containers = calls.containers ++ container ∷ [];
  flushes = calls.flushes;
}

abbrev pub and_flush : Calls → Calls
and_flush calls = record {
  delay = calls.delay;
  windows = calls.windows;
  total = calls.total;
  containers = calls.containers;
  flushes = suc calls.flushes;
}

-- the same calls on a line with other windows
abbrev pub with_windows : Calls → List Window → Calls
with_windows calls windows = record {
  delay = calls.delay;
  windows = windows;
  total = calls.total;
  containers = calls.containers;
  flushes = calls.flushes;
}

-- the containers from a number on are damaged
abbrev pub and_cut : Calls → ℕ → Calls
and_cut calls first = with_windows calls (opened_at calls.windows first calls.total)

-- those from a number on are no longer
abbrev pub and_mend : Calls → ℕ → Calls
and_mend calls end = with_windows calls (closed_at calls.windows end)

-- each push and each flush is a carry
abbrev pub carries_of : Calls → ℕ
carries_of calls = length calls.containers + calls.flushes

-- the cells of the path so far
abbrev pub path_cells : Calls → List Cell
path_cells calls = cells (carried calls.windows) calls.delay calls.total calls.containers (carries_of calls)

-- a line stands where these calls have brought it
pub record DelayStands (line : Line) (calls : Calls) : Type 0 where
  pub delay : line.delay ≡ calls.delay
  pub windows : line.windows ≡ calls.windows
  pub total : line.total ≡ calls.total
  pub stored : line.stored ≡ drop (carries_of calls - calls.delay) calls.containers
  pub pushed : line.pushed ≡ length calls.containers
  pub flushed : line.flushed ≡ calls.flushes

-- more pushes and flushes
pub record Counts (before after : Line) (pushes flushes : ℕ) : Type 0 where
  pub pushed : after.pushed ≡ before.pushed + pushes
  pub flushed : after.flushed ≡ before.flushed + flushes
  pub total : after.total ≡ before.total
  pub delay : after.delay ≡ before.delay

-- End was given
abbrev pub IsEnded : Line → Type 0
IsEnded line = line.delay < line.flushed

-- the containers that are on their way, oldest first; how many there may be, and how many places are spare
pub record Stored : Type 0 where
  pub items : List Container
  pub capacity : ℕ
  pub spare : ℕ

abbrev pub stored : List Container → ℕ → ℕ → Stored
stored items capacity spare = record { items = items; capacity = capacity; spare = spare }

-- what is true of the parts of a line: as many containers are on their way as were pushed and not let go, there is a
-- spare place for
-- each that fills the delay, and no flush comes before the last push
pub record IsLine (store : Stored) (delay total pushed flushed : ℕ) : Type 0 where
  pub room : store.capacity ≡ delay
  pub spare : min delay total ≤ store.spare + pushed
  pub stored : length store.items ≡ pushed - (pushed + flushed - delay)
  pub within : pushed ≤ total
  pub flushes : flushed ≤ delay + 1
  pub order : 0 < flushed → pushed ≡ total
