-- The program's commands: by which words, and with which tasks.
use Rattle.std.specs.Prelude.{ℕ, List, Option, Some, None, String, map, string_bytes, codes}
use Rattle.std.specs.Option.{option_or}
use Rattle.std.specs.declared.alloc.Global.{Global}
use Rattle.command_words.specs.CommandLineWords.{taken_as}
use Rattle.command_parts.specs.Common.{Task, none, reads}
use Rattle.command_run.specs.declared.command_of_words.RunCommand.{RunCommand}
use Rattle.command_run.specs.declared.command_of_words.RunCommand.TheVariants.{Run, Watch}
use Rattle.command_run.specs.Run.{run_words, run_answer}
use Rattle.command_run.specs.Watch.{watch_words, watch_answer}

abbrev pub usage : List ℕ
usage = codes "usage: vcat_run run WORKERS or watch WORKERS\n"

-- ---- a line for each command
abbrev pub command_of : List (List ℕ) → Option RunCommand
command_of words = option_or (run_words words) (watch_words words)

abbrev pub task_at : RunCommand → Task
task_at (Run workers) = reads run_answer
task_at (Watch workers) = reads watch_answer

-- ---- of the words of a command line
abbrev pub command_in : List (String Global) → Option RunCommand
command_in words = taken_as command_of (map string_bytes words)

abbrev pub task_for : Option RunCommand → Task
task_for None = none usage
task_for (Some command) = task_at command

abbrev pub task_of : List (String Global) → Task
task_of words = task_for (command_in words)
