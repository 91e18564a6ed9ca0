-- `fates`: a script's walk, and what became of each of its frames.
use Rattle.std.specs.Prelude.{◌≡◌, ℕ, List, ◌++◌, codes, Option, Some, None, if◌then◌else◌}
use Rattle.law_model.specs.Common.{leg_of}
use Rattle.fate_engine.specs.Common.{fates_text}
use Rattle.law_headline.specs.WalkTexts.{counts_in}
use Rattle.law_headline.specs.Headline.{IsWalkReport}
use Rattle.command_parts.specs.Common.{Answer, writes, script_answer}
use Rattle.command_rooms.specs.declared.walk_command.WalkCommand.{WalkCommand}
use Rattle.command_rooms.specs.declared.walk_command.WalkCommand.TheVariants.{Fates}
use Rattle.command_rooms.specs.commands.Walk.{is_word, walk_answer}

abbrev pub fates_words : List (List ℕ) → Option WalkCommand
fates_words words = if is_word (codes "fates") words then Some Fates else None

abbrev pub fates_answer : List ℕ → Answer
fates_answer = script_answer (λ script. writes (fates_text (leg_of script) (counts_in script)))

-- ---- true starts
-- a text ends in these words and the end of their line
abbrev pub EndsTrue : List ℕ → Type 0
EndsTrue text = (front : List ℕ) × (text ≡ front ++ codes "starts true\n")

-- what `walk` writes of a text is its headline, with nothing presumed
pub record WalksTrue (text : List ℕ) : Type 0 where
  pub report : List ℕ
  pub answers : walk_answer text ≡ writes report
  pub is : IsWalkReport text report
