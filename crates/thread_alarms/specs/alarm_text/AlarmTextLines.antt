-- The lines of text that alarms are told by. They are this project's own.
use Rattle.std.specs.Prelude.{ℕ, List, ◌++◌, codes, decimal}
use Rattle.std.specs.List.{flat_map, range_with_len}
use Rattle.thread_rings.specs.declared.alarm_kinds.Alarm.{Alarm}
use Rattle.thread_rings.specs.declared.alarm_kinds.AlarmKind.{AlarmKind}
use Rattle.thread_rings.specs.declared.alarm_kinds.AlarmKind.TheVariants.{Fails, Returns, Ends}
use Rattle.thread_alarms.specs.alarm_log.Alarms.{of_line}

-- what an alarm says
abbrev pub kind_text : AlarmKind → List ℕ
kind_text Fails = codes "fails"
kind_text Returns = codes "returns"
kind_text Ends = codes "ends"

-- its line: the line of the group, the place among the cells that it sent, and what it says
abbrev pub alarm_text : Alarm → List ℕ
alarm_text alarm =
    codes "alarm " ++ decimal alarm.line ++ codes " " ++ decimal alarm.place ++ codes " " ++ kind_text alarm.kind
    ++ codes "\n"

abbrev pub alarm_texts : List Alarm → List ℕ
alarm_texts alarms = flat_map alarm_text alarms

-- those of the first lines of a group, line by line
abbrev pub lines_text : ℕ → List Alarm → List ℕ
lines_text lines alarms = flat_map (λ m. alarm_texts (of_line m alarms)) (range_with_len 0 lines)
