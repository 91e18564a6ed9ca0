-- `gfp`: a script's walk, and the capture of the GFP frames that its source sent and the taken rows carry.
use Rattle.std.specs.Prelude.{ℕ, List, codes, Option, Some, None, if◌then◌else◌}
use Rattle.law_model.specs.Common.{leg_of}
use Rattle.law_headline.specs.WalkTexts.{counts_in}
use Rattle.fate_walks.specs.walk_gfp.CarriedInRows.{sent_capture}
use Rattle.command_parts.specs.Common.{Answer, writes, script_answer}
use Rattle.command_rooms.specs.declared.walk_command.WalkCommand.{WalkCommand}
use Rattle.command_rooms.specs.declared.walk_command.WalkCommand.TheVariants.{Gfp}
use Rattle.command_rooms.specs.commands.Walk.{is_word}

abbrev pub gfp_words : List (List ℕ) → Option WalkCommand
gfp_words words = if is_word (codes "gfp") words then Some Gfp else None

abbrev pub gfp_answer : List ℕ → Answer
gfp_answer = script_answer (λ script. writes (sent_capture (leg_of script) (counts_in script)))
