-- `service`: a script's walk, and what it was worth to its client, by stretches of ticks.
use Rattle.std.specs.Prelude.{◌≡◌, ℕ, ◌==◌, ◌&&◌, true, List, ◌++◌, length, codes, bytes_eq, Option, Some, None}
use Rattle.std.specs.Prelude.{if◌then◌else◌}
use Rattle.law_model.specs.Common.{leg_of, most_ticks}
use Rattle.law_model.specs.declared.item_refusals.Refusal.{Refusal}
use Rattle.law_model.specs.declared.session_totals.Totals.{Totals}
use Rattle.text_report.specs.ReportLines.{got_texts, refused_texts, total_text}
use Rattle.law_headline.specs.WalkTexts.{counts_in}
use Rattle.fate_service.specs.declared.landed_frames.Tally.{Tally}
use Rattle.fate_service.specs.declared.stretch_counts.Stretch.{Stretch}
use Rattle.fate_service.specs.declared.service_text.Ends.{Ends}
use Rattle.fate_service.specs.ServiceText.{service_text, last_text}
use Rattle.fate_service.specs.service_law.LinesAsNumbers.{fates_line}
use Rattle.fate_service.specs.service_law.LineSums.{tally_of}
use Rattle.command_words.specs.CommandLineWords.{number_in}
use Rattle.command_parts.specs.Common.{Answer, writes, script_answer}
use Rattle.command_rooms.specs.declared.walk_command.WalkCommand.{WalkCommand}
use Rattle.command_rooms.specs.declared.walk_command.WalkCommand.TheVariants.{Service}
use Rattle.command_rooms.specs.commands.Walk.{word_at, walk_answer}
use Rattle.command_rooms.specs.commands.Fates.{fates_answer}

-- the command by the ticks of a stretch
abbrev pub interval_of : Option ℕ → Option WalkCommand
interval_of (Some interval) = Some (Service interval)
interval_of None = None

-- 1 to 100,000,000 ticks
abbrev pub service_words : List (List ℕ) → Option WalkCommand
service_words words =
    if length words == 2 && bytes_eq (word_at 0 words) (codes "service")
    then interval_of (number_in 1 most_ticks (word_at 1 words)) else None

abbrev pub service_answer : ℕ → List ℕ → Answer
service_answer interval =
    script_answer (λ script. writes (service_text (leg_of script) (counts_in script) interval))

-- ---- beside `fates` and `walk` of the same text
-- `walk` has got lines of as many frames and octets as were got
pub record WalkGets (text : List ℕ) (got : Tally) : Type 0 where
  pub frames : List (List ℕ)
  pub refusals : List (ℕ × Refusal)
  pub totals : Totals
  pub report : walk_answer text ≡ writes (got_texts frames ++ refused_texts refusals ++ total_text totals)
  pub as_many : got ≡ tally_of frames

-- the numbers of the last line of `service` make the last line of `fates`; and if that ends in `starts true`, `walk` has
-- as many got lines as were got
pub record Agrees (text service : List ℕ) : Type 0 where
  pub end : ℕ
  pub all : Stretch
  pub ends : Ends
  pub before : List ℕ
  pub last : service ≡ before ++ last_text end all ends
  pub lines : List ℕ
  pub fates : fates_answer text ≡ writes (lines ++ fates_line all ends)
  pub walk : ends.starts ≡ true → WalkGets text all.ended.got
