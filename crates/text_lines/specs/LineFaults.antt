-- What can be wrong with a line of any language, and why a text isn't read.
use Rattle.std.specs.Prelude.{◌≡◌, ⊤, ℕ, Option, Some, Result, Err}
use Rattle.text_lines.specs.declared.text_faults.LineKind.{LineKind}
use Rattle.text_lines.specs.declared.text_faults.LineKind.TheVariants as kind
use Rattle.text_lines.specs.declared.text_faults.FieldStop.{FieldStop}
use Rattle.text_lines.specs.declared.text_faults.FieldStop.TheVariants as field
use Rattle.text_lines.specs.declared.text_faults.LineFault.{LineFault}
use Rattle.text_lines.specs.declared.text_faults.LineFault.TheVariants as wrong
use Rattle.text_lines.specs.declared.text_faults.LineStop.{LineStop}
use Rattle.text_lines.specs.declared.text_faults.LineStop.TheVariants as stop
use Rattle.text_lines.specs.declared.text_faults.TextFault.{TextFault}
use Rattle.text_lines.specs.declared.text_faults.TextFault.TheVariants as text
use Rattle.text_lines.specs.Fields.{field_kind}

-- the kind of a faulty line; what the lines before it leave no room for is one of their order
abbrev pub kind_of : {K O : Type 0} → LineFault K O → LineKind
kind_of wrong.First = kind.Word
kind_of (wrong.Count keyword takes follow) = kind.Word
kind_of (wrong.Field fault) = field_kind fault
kind_of (wrong.Missing keyword) = kind.Missing
kind_of (wrong.Order this before) = kind.Order
kind_of (wrong.Own fault) = kind.Order

-- why a word wasn't read, as why its line wasn't
abbrev pub lifted : {K O : Type 0} → FieldStop → LineStop K O
lifted (field.Fault fault) = stop.Fault (wrong.Field fault)
lifted field.Memory = stop.Memory

-- a line that wasn't read has this fault, unless memory was short
abbrev pub IsLineStop : {K O : Type 0} → LineStop K O → Option (LineFault K O) → Type 0
IsLineStop (stop.Fault fault) found = found ≡ Some fault
IsLineStop stop.Memory found = ⊤

-- why a text isn't read, where the line of a number wasn't
abbrev pub stopped : {K O : Type 0} → ℕ → LineStop K O → TextFault K O
stopped number (stop.Fault fault) = text.Line number fault
stopped number stop.Memory = text.Memory

-- a text that says this has this fault; none wants for memory
abbrev pub IsTextFault : {K O A : Type 0} → Result A (ℕ × LineFault K O) → TextFault K O → Type 0
IsTextFault said (text.Line number fault) = said ≡ Err (number, fault)
IsTextFault said text.Memory = ⊤
