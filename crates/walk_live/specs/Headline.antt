-- What a conversation is worth: a walk of the script that says the same afterwards writes the same frames.
use Rattle.std.specs.Prelude.{◌≡◌, ℕ, List, ◌++◌, Ok}
use Rattle.std.specs.Str.Lines.{lines}
use Rattle.law_model.specs.Common.{IsValid, leg_of}
use Rattle.law_model.specs.declared.script_types.Script.{Script}
use Rattle.text_report.specs.ReportLines.{got_texts, refused_texts}
use Rattle.law_walk.specs.Common.{landed_items}
use Rattle.law_headline.specs.WalkTexts.{counts_in, walk_text}
use Rattle.law_headline.specs.Headline.{IsHeadline}
use Rattle.law_live.specs.Common.{answers, frames_got, items_refused, last_text, rounds_of}
use Rattle.text_live.specs.LiveScript.{script_of_live}
use Rattle.text_live.specs.Sayings.{leg_in, sayings}
use Rattle.walk_live.specs.LiveReplies.{answered}
use Rattle.walk_live.specs.declared.asked.Asked.{Asked}

-- the script of lines, of which none is faulty
abbrev pub IsScriptOf : List (List ℕ) → Script → Type 0
IsScriptOf ls script = script_of_live (rounds_of (leg_in ls) (sayings ls)) ls ≡ Ok script

-- it can be walked, and a walk of it writes the frames that the answers tell, in order; then the refused items; and then
-- the totals. So the headline holds of it, and of them
pub record IsWalkOf (ls : List (List ℕ)) (script : Script) : Type 0 where
  pub says : IsScriptOf ls script
  pub valid : IsValid script
  pub writes : let told = answers (leg_in ls) (sayings ls) in walk_text script
      ≡ got_texts (frames_got told) ++ refused_texts (items_refused told) ++ last_text (leg_in ls) (sayings ls)
  pub headline : let s = counts_in script in
      IsHeadline (leg_of script) s.ticks s.rows (landed_items (leg_of script) s) (walk_text script)

-- THE HEADLINE of a conversation: the answers to the lines of its text are written, and then the totals; and afterwards
-- there is a script of which a walk writes the same
pub record IsLiveHeadline (asked : Asked) (text written : List ℕ) : Type 0 where
  pub answers : written
      ≡ answered asked (leg_in (lines text)) (sayings (lines text)) ++ last_text (leg_in (lines text)) (sayings (lines text))
  pub script : Script
  pub walk : IsWalkOf (lines text) script
