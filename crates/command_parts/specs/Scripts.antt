-- Commands that run the script which their input says.
use Rattle.std.specs.Prelude.{◌≡◌, ℕ, ◌+◌, List, length, Option, Ok, Err, Result}
use Rattle.std.specs.Io.KnownBytes.{prepend_known}
use Rattle.law_model.specs.Common.{longest_input}
use Rattle.law_model.specs.declared.script_types.Script.{Script}
use Rattle.text_scripts.specs.declared.script_read.script_fault.ScriptFault.{ScriptFault}
use Rattle.text_scripts.specs.declared.script_read.script_reader.ScriptReader.{ScriptReader}
use Rattle.text_scripts.specs.script_read.ScriptInPieces.{IsReader, ReaderStands}
use Rattle.text_scripts.specs.script_read.Script.{script_of}
use Rattle.command_parts.specs.declared.stop_and_status.Refusal.{Refusal}
use Rattle.command_parts.specs.Task.{Answer}
use Rattle.command_parts.specs.Ends.{Lent, HasRead}
use Rattle.command_parts.specs.FaultTexts.{fault_text, why_of}
use Rattle.command_parts.specs.TextInPieces.{answer_told}

-- a script, or why a text is none, and the note on that; no text wants for memory
abbrev pub told_of : Result Script ScriptFault → Result Script (Refusal × List ℕ)
told_of (Ok script) = Ok script
told_of (Err fault) = Err (why_of fault, fault_text fault)

-- what is answered of that
abbrev pub answer_of : (Script → Answer) → Result Script ScriptFault → Answer
answer_of writes of = answer_told writes (told_of of)

abbrev pub script_answer : (Script → Answer) → List ℕ → Answer
script_answer writes text = answer_of writes (script_of text)

-- the text of this script was read
pub record HasScript {S : Type 0} (source : Lent S) (script : Script) : Type 0 where
  pub text : List ℕ
  pub read : HasRead source text
  pub says : script_of text ≡ Ok script

-- a reader of a script was made by its calls, and has read this text, which ends where a line does
pub record ReadsScript (reader : ScriptReader) (text : List ℕ) : Type 0 where
  pub made : IsReader reader
  pub stands : ReaderStands reader text

-- a source has given this text, without a fault, and may give so many octets more
pub record IsTaken {S : Type 0} (left : S → Option (List ℕ)) (faults : S → ℕ) (old now : S) (text : List ℕ)
    (room : ℕ) : Type 0 where
  pub given : left old ≡ prepend_known text (left now)
  pub quiet : faults now ≡ faults old
  pub size : length text + room ≡ longest_input
