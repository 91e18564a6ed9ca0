-- Why a word wasn't read, as why its line wasn't, in private clauses.
use Rattle.std.specs.Prelude.{◌≡◌, ⊤, Option, Some}
use Rattle.text_lines.specs.declared.text_faults.FieldStop.{FieldStop}
use Rattle.text_lines.specs.declared.text_faults.FieldStop.TheVariants as word
use Rattle.text_scripts.specs.declared.script_read.script_fault.LineFault.{LineFault}
use Rattle.text_scripts.specs.declared.script_read.script_fault.LineFault.TheVariants.{Field}
use Rattle.text_scripts.specs.declared.script_read.script_fault.LineStop.{LineStop}
use Rattle.text_scripts.specs.declared.script_read.script_fault.LineStop.TheVariants as stop

abbrev pub lifted : FieldStop → LineStop
lifted (word.Fault fault) = stop.Fault (Field fault)
lifted word.Memory = stop.Memory

-- a line that wasn't read has this fault, unless memory was short
abbrev pub IsStop : LineStop → Option LineFault → Type 0
IsStop (stop.Fault fault) found = found ≡ Some fault
IsStop stop.Memory found = ⊤
