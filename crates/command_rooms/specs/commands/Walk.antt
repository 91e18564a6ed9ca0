-- `walk`: a script's walk, and its report.
use Rattle.std.specs.Prelude.{ℕ, ◌==◌, ◌&&◌, List, length, bytes_eq, slice_index_or, [], codes, Bool, Option, Some}
use Rattle.std.specs.Prelude.{None, if◌then◌else◌}
use Rattle.law_headline.specs.WalkTexts.{walk_text}
use Rattle.command_parts.specs.Common.{Answer, writes, script_answer}
use Rattle.command_rooms.specs.declared.walk_command.WalkCommand.{WalkCommand}
use Rattle.command_rooms.specs.declared.walk_command.WalkCommand.TheVariants.{Walk}

abbrev pub word_at : ℕ → List (List ℕ) → List ℕ
word_at i words = slice_index_or words i []

-- a command of one word
abbrev pub is_word : List ℕ → List (List ℕ) → Bool
is_word name words = length words == 1 && bytes_eq (word_at 0 words) name

abbrev pub walk_words : List (List ℕ) → Option WalkCommand
walk_words words = if is_word (codes "walk") words then Some Walk else None

abbrev pub walk_answer : List ℕ → Answer
walk_answer = script_answer (λ script. writes (walk_text script))
