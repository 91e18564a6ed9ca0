-- The alarms of a line over the cells that it sent.
use Rattle.std.specs.Prelude.{ℕ, suc, Bool, true, false, Option, Some, None, List, [], ◌∷◌, ◌++◌}
use Rattle.law_model.specs.Common.{Cell, Good, Fail, End}
use Rattle.thread_rings.specs.declared.alarm_kinds.Alarm.{Alarm}
use Rattle.thread_rings.specs.declared.alarm_kinds.AlarmKind.{AlarmKind}
use Rattle.thread_rings.specs.declared.alarm_kinds.AlarmKind.TheVariants.{Fails, Returns, Ends}

-- the alarm of line m at place i that says this
abbrev pub alarm_at : ℕ → ℕ → AlarmKind → Alarm
alarm_at m i what = record { line = m; place = i; kind = what }

-- a good cell after the sign of a failure says that the line returns
abbrev pub return_of : ℕ → ℕ → Bool → List Alarm
return_of m i true = alarm_at m i Returns ∷ []
return_of m i false = []

-- the sign of a failure that comes after no such sign says that the line fails
abbrev pub failure_of : ℕ → ℕ → Bool → List Alarm
failure_of m i true = []
failure_of m i false = alarm_at m i Fails ∷ []

-- the alarms of line m over its cells from place i on, where the cell before was the sign of a failure or not
unfoldable pub alarms_from : ℕ → ℕ → Bool → List Cell → List Alarm
alarms_from m i failed [] = []
alarms_from m i failed (Good container ∷ rest) = return_of m i failed ++ alarms_from m (suc i) false rest
alarms_from m i failed (Fail ∷ rest) = failure_of m i failed ++ alarms_from m (suc i) true rest
alarms_from m i failed (End ∷ rest) = alarm_at m i Ends ∷ alarms_from m (suc i) false rest

-- whether the last cell is the sign of a failure, where the cell before these was one or not
unfoldable pub failed_after : Bool → List Cell → Bool
failed_after failed [] = failed
failed_after failed (Good container ∷ rest) = failed_after false rest
failed_after failed (Fail ∷ rest) = failed_after true rest
failed_after failed (End ∷ rest) = failed_after false rest

-- the alarm of line m at place i that says this, if anything is said
abbrev pub alarm_if : ℕ → ℕ → Option AlarmKind → List Alarm
alarm_if m i None = []
alarm_if m i (Some what) = alarm_at m i what ∷ []

-- the alarms of line m over the cells that it sent
abbrev pub alarms_of_line : ℕ → List Cell → List Alarm
alarms_of_line m sent = alarms_from m 0 false sent
