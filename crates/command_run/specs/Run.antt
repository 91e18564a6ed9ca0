-- `run`: a script's session, and its report.
use Rattle.std.specs.Prelude.{ℕ, ◌==◌, ◌&&◌, List, [], length, bytes_eq, slice_index_or, codes, Option, Some, None}
use Rattle.std.specs.Prelude.{if◌then◌else◌}
use Rattle.law_model.specs.Common.{leg_of}
use Rattle.law_walk.specs.Common.{final_report}
use Rattle.command_words.specs.CommandLineWords.{number_in}
use Rattle.command_parts.specs.Common.{Answer, writes, script_answer}
use Rattle.command_run.specs.declared.command_of_words.RunCommand.{RunCommand}
use Rattle.command_run.specs.declared.command_of_words.RunCommand.TheVariants.{Run}

-- with 1 to 64 threads for its lines
abbrev pub run_of : Option ℕ → Option RunCommand
run_of (Some workers) = Some (Run workers)
run_of None = None

abbrev pub run_words : List (List ℕ) → Option RunCommand
run_words words =
    if length words == 2 && bytes_eq (slice_index_or words 0 []) (codes "run") then run_of
    (number_in 1 64 (slice_index_or words 1 [])) else None

abbrev pub run_answer : List ℕ → Answer
run_answer = script_answer (λ script. writes (final_report (leg_of script)))
