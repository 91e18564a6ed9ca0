-- `check`: a script's walk, and what in the script is unused, idle, early or refused.
use Rattle.std.specs.Prelude.{ℕ, List, codes, Option, Some, None, if◌then◌else◌}
use Rattle.law_model.specs.session.Leg.{leg_of}
use Rattle.law_headline.specs.WalkTexts.{counts_in}
use Rattle.fate_check.specs.CheckText.{check_text}
use Rattle.command_parts.specs.Task.{Answer, writes}
use Rattle.command_parts.specs.Scripts.{script_answer}
use Rattle.command_rooms.specs.declared.walk_command.WalkCommand.{WalkCommand}
use Rattle.command_rooms.specs.declared.walk_command.WalkCommand.TheVariants.{Check}
use Rattle.command_rooms.specs.commands.Walk.{is_word}

abbrev pub check_words : List (List ℕ) → Option WalkCommand
check_words words = if is_word (codes "check") words then Some Check else None

abbrev pub check_answer : List ℕ → Answer
check_answer = script_answer (λ script. writes (check_text (leg_of script) (counts_in script)))
