-- Where a reader stands in a text that comes in pieces, and what its lines so far say.
use Rattle.std.specs.Prelude.{◌≡◌, ℕ, ◌+◌, ◌≤◌, List, ◌++◌, length, All, Option, Some, None}
use Rattle.std.specs.Str.Lines.{lines}
use Rattle.text_lines.specs.Language.{said_from, said_by}
use Rattle.text_scripts.specs.declared.script_read.script_reader.ScriptReader.{ScriptReader}
use Rattle.text_scripts.specs.declared.script_read.script_draft.Draft.{Draft}
use Rattle.text_scripts.specs.declared.script_read.script_fault.LineFault.{LineFault}
use Rattle.text_scripts.specs.declared.script_read.script_fault.ScriptFault.{ScriptFault}
use Rattle.text_scripts.specs.declared.script_read.script_fault.ScriptFault.TheVariants as fault
use Rattle.text_scripts.specs.script_read.Script.{script_lines, config_fault}
use Rattle.text_scripts.specs.script_read.Drafts.{AreFailures, IsDraft}
use Rattle.law_model.specs.Common.{longest_input, IsValid, HasFewLosses, most_lines}
use Rattle.law_model.specs.declared.script_types.Script.{Script}

-- it has read this text, which ends where a line does: whatever follows is read from there
pub record ReaderStands (reader : ScriptReader) (text : List ℕ) : Type 0 where
  pub said : (more : List ℕ) → said_by script_lines (text ++ more)
      ≡ said_from script_lines reader.number reader.draft (lines more)
  pub count : reader.number ≤ length text + 1

-- it was made by its calls: what its lines say may be walked as far as it goes
pub record IsReader (reader : ScriptReader) : Type 0 where
  pub draft : IsDraft reader.draft

-- so many octets may follow, by the number of lines that were read
abbrev pub HasNumbersLeft : ScriptReader → ℕ → Type 0
HasNumbersLeft reader n = reader.number + n ≤ longest_input + 1

-- it has read all of a text but this rest
pub record Follows (reader : ScriptReader) (rest all : List ℕ) : Type 0 where
  pub text : List ℕ
  pub is : all ≡ text ++ rest
  pub stands : ReaderStands reader text

-- ---- line by line
-- the number of the line that it reads next, and what the lines before it say
abbrev pub next_number : ScriptReader → ℕ
next_number reader = reader.number

abbrev pub drafted : ScriptReader → Draft
drafted reader = reader.draft

-- it reads a line of this number next, after lines that say this
pub record IsAt (reader : ScriptReader) (n : ℕ) (d : Draft) : Type 0 where
  pub number : next_number reader ≡ n
  pub draft : drafted reader ≡ d

-- the line of a number has a fault, and is told
pub record IsToldAt (n : ℕ) (found : Option LineFault) (told : ScriptFault) : Type 0 where
  pub wrong : LineFault
  pub fails : found ≡ Some wrong
  pub is : told ≡ fault.Line n wrong

-- a script whose lines have no fault: where its slips, spread and lag have none, it may be walked
pub record IsUntested (script : Script) : Type 0 where
  pub few : length script.config.windows ≤ most_lines
  pub windows : All (AreFailures script.config.ticks) script.config.windows
  pub few_lost : HasFewLosses script
  pub valid : config_fault script.config ≡ None → IsValid script
