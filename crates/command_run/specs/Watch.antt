-- `watch`: a script's session as `run` writes it, and the alarms of its lines.
use Rattle.std.specs.Prelude.{ℕ, ◌==◌, ◌&&◌, List, [], length, bytes_eq, slice_index_or, codes, Option, Some, None}
use Rattle.std.specs.Prelude.{if◌then◌else◌}
use Rattle.std.specs.List.{flat_map, range_with_len}
use Rattle.law_model.specs.Common.{leg_of}
use Rattle.law_model.specs.declared.script_types.Script.{Script}
use Rattle.thread_rings.specs.LineAlarms.{alarms_of_line}
use Rattle.thread_alarms.specs.alarm_text.AlarmTextLines.{alarm_texts}
use Rattle.law_walk.specs.Common.{line_cells, final_report}
use Rattle.command_words.specs.CommandLineWords.{number_in}
use Rattle.command_parts.specs.Common.{Answer, writes_both, script_answer}
use Rattle.command_run.specs.declared.command_of_words.RunCommand.{RunCommand}
use Rattle.command_run.specs.declared.command_of_words.RunCommand.TheVariants.{Watch}

-- with 1 to 64 threads for its lines
abbrev pub watch_of : Option ℕ → Option RunCommand
watch_of (Some workers) = Some (Watch workers)
watch_of None = None

abbrev pub watch_words : List (List ℕ) → Option RunCommand
watch_words words =
    if length words == 2 && bytes_eq (slice_index_or words 0 []) (codes "watch") then watch_of
    (number_in 1 64 (slice_index_or words 1 [])) else None

-- the alarms of each line over all cells of its path, line by line from 0 and by place
abbrev pub alarms_text : Script → List ℕ
alarms_text script = flat_map (λ m. alarm_texts (alarms_of_line m (line_cells (leg_of script) m)))
    (range_with_len 0 script.config.lines)

abbrev pub watch_answer : List ℕ → Answer
watch_answer = script_answer (λ script. writes_both (final_report (leg_of script)) (alarms_text script))
