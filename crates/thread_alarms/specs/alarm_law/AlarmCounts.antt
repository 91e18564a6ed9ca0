-- How many alarms a line has.
use Rattle.std.specs.Prelude.{◌≡◌, ℕ, ◌+◌, ◌*◌, ◌≤◌, List, ◌++◌, length}
use Rattle.law_model.specs.Common.{Container, Cell, AreWindows, cells}
use Rattle.law_model.specs.declared.window_types.Window.{Window}
use Rattle.law_model.specs.members.Damage.{carried}
use Rattle.thread_rings.specs.declared.alarm_kinds.Alarm.{Alarm}
use Rattle.thread_rings.specs.LineAlarms.{alarms_of_line}

-- a line has at most two alarms for each window, and one for its end
abbrev pub AreFew : Type 0
AreFew = (m delay total i : ℕ) (windows : List Window) (containers : List Container) → AreWindows 0 windows →
    length (alarms_of_line m (cells (carried windows) delay total containers i)) ≤ 2 * length windows + 1

-- the alarms of more cells begin with those of the first ones
abbrev pub AreKept : Type 0
AreKept = (m : ℕ) (sent more : List Cell) →
    (later : List Alarm) × (alarms_of_line m (sent ++ more) ≡ alarms_of_line m sent ++ later)
