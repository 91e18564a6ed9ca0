-- The script of what was said live.
use Rattle.std.specs.Prelude.{ℕ, List, Result}
use Rattle.text_lines.specs.LanguageTable.{formed}
use Rattle.text_lines.specs.Language.{said_from}
use Rattle.law_model.specs.declared.script_types.Script.{Script}
use Rattle.law_live.specs.ScriptOfSayings.{script_by}
use Rattle.text_live.specs.LiveLines.{Said, LineWrong, now_live, nothing_said, live_lines}

-- the script of what lines say, where the ticks that have passed took so many rounds
abbrev pub script_in : ℕ → Said → Script
script_in rounds s = script_by s.settings.config rounds (now_live s)

-- of lines one after another, or the first fault by its number
abbrev pub script_of_live : ℕ → List (List ℕ) → Result Script (ℕ × LineWrong)
script_of_live rounds ls = formed (script_in rounds) (said_from live_lines 1 nothing_said ls)
