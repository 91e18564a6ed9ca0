-- Lists of alarms.
use Rattle.std.specs.Prelude.{ℕ, ◌==◌, if◌then◌else◌, List, [], ◌∷◌, ◌++◌}
use Rattle.std.specs.Global.{Vec}
use Rattle.thread_rings.specs.declared.alarm_kinds.Alarm.{Alarm}
use Rattle.thread_alarms.specs.declared.alarm_log.tagged_alarm.Tagged.{Tagged}

-- those that came through post number n, in order
abbrev pub through : ℕ → List Tagged → List Alarm
through n [] = []
through n (x ∷ xs) = if x.from == n then x.alarm ∷ through n xs else through n xs

-- all of them, with no post told
abbrev pub alarms_of : List Tagged → List Alarm
alarms_of [] = []
alarms_of (x ∷ xs) = x.alarm ∷ alarms_of xs

-- those of line m, in order
abbrev pub of_line : ℕ → List Alarm → List Alarm
of_line m [] = []
of_line m (a ∷ rest) = if a.line == m then a ∷ of_line m rest else of_line m rest

-- the lists one after the other
abbrev pub in_row : List (List Alarm) → List Alarm
in_row [] = []
in_row (l ∷ ls) = l ++ in_row ls

-- what a list holds
abbrev pub items_of : Vec Alarm → List Alarm
items_of kept = kept.items
