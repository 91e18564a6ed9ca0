-- The notes on what is wrong with an input.
use Rattle.std.specs.Prelude.{ℕ, List, [], ◌++◌, codes, decimal}
use Rattle.text_lines.specs.declared.text_faults.LineKind.{LineKind}
use Rattle.text_lines.specs.declared.text_faults.LineKind.TheVariants.{Word, Number, Hex, Range, Order, Missing}
use Rattle.text_lines.specs.Fields.{field_kind}
use Rattle.text_scripts.specs.declared.script_read.script_fault.SizesFault.{SizesFault}
use Rattle.text_scripts.specs.declared.script_read.script_fault.SizesFault.TheVariants as sizes
use Rattle.text_scripts.specs.declared.script_read.script_fault.LineFault.{LineFault}
use Rattle.text_scripts.specs.declared.script_read.script_fault.LineFault.TheVariants as wrong
use Rattle.text_scripts.specs.declared.script_read.script_fault.ScriptFault.{ScriptFault}
use Rattle.text_scripts.specs.declared.script_read.script_fault.ScriptFault.TheVariants.{Line, Slip, Spread, Lag, Memory}
use Rattle.command_parts.specs.ScriptHelpTexts.{line_help_text, slip_help_text, spread_help_text, lag_help_text}
use Rattle.command_parts.specs.declared.stop_and_status.Refusal.{Refusal}
use Rattle.command_parts.specs.declared.stop_and_status.Refusal.TheVariants as why
use Rattle.command_parts.specs.declared.stop_and_status.Stop.{Stop}
use Rattle.command_parts.specs.Stops.{IsRefusedAs}

abbrev pub kind_text : LineKind → List ℕ
kind_text Word = codes "word"
kind_text Number = codes "number"
kind_text Hex = codes "hex"
kind_text Range = codes "range"
kind_text Order = codes "order"
kind_text Missing = codes "missing"

-- the kind of what is wrong with the sizes of frames, and with a line of a script
abbrev pub sizes_kind : SizesFault → LineKind
sizes_kind sizes.Digits = Number
sizes_kind sizes.Count = Range
sizes_kind sizes.Range = Range

abbrev pub kind_of : LineFault → LineKind
kind_of wrong.First = Word
kind_of (wrong.Count keyword takes follow) = Word
kind_of (wrong.Field fault) = field_kind fault
kind_of (wrong.Sizes fault) = sizes_kind fault
kind_of wrong.LongNumber = Number
kind_of wrong.LongerPath = Number
kind_of (wrong.Missing keyword) = Missing
kind_of (wrong.Part this begun) = Order
kind_of (wrong.Stands keyword line) = Order
kind_of wrong.ContainerFirst = Order
kind_of (wrong.Twice option) = Range
kind_of (wrong.FullLine line) = Range
kind_of wrong.FullPath = Range
kind_of (wrong.TooMany items) = Range
kind_of (wrong.FailureBefore end) = Order
kind_of (wrong.LossBefore end) = Order
kind_of (wrong.FrameBefore due) = Order
kind_of (wrong.CommandBefore due) = Order

-- a line that is faulty, and what is said of how to write it
abbrev pub line_text : ℕ → LineKind → List ℕ → List ℕ
line_text number kind help =
    codes "fault: line " ++ decimal number ++ codes ": " ++ kind_text kind ++ codes "\nhelp: " ++ help ++ codes "\n"

-- what is wrong with a script, and what is said of how to write it: of slips, spread and lag behind a front
abbrev pub limit_text : List ℕ → ScriptFault → List ℕ
limit_text front (Line number fault) = line_text number (kind_of fault) (line_help_text fault)
limit_text front (Slip line window slip) =
    codes "fault: slip line " ++ decimal line ++ codes " window " ++ decimal window ++ codes "\nhelp: " ++ front ++
    slip_help_text slip ++ codes "\n"
limit_text front (Spread slow fast slip ring) =
    codes "fault: spread " ++ decimal slow ++ codes " " ++ decimal fast ++ codes " " ++ decimal slip ++ codes " " ++
    decimal ring
    ++ codes "\nhelp: " ++ front ++ spread_help_text slow fast slip ++ codes "\n"
limit_text front (Lag lag least slow slip) =
    codes "fault: lag " ++ decimal lag ++ codes " least " ++ decimal least ++ codes "\nhelp: " ++ front ++
    lag_help_text slow slip least ++ codes "\n"
limit_text front Memory = codes "fault: no memory\n"

abbrev pub fault_text : ScriptFault → List ℕ
fault_text = limit_text []

-- a line is faulty, or slips, spread or lag don't fit
abbrev pub why_of : ScriptFault → Refusal
why_of (Line number fault) = why.Line
why_of (Slip line window slip) = why.Limit
why_of (Spread slow fast slip ring) = why.Limit
why_of (Lag lag least slow slip) = why.Limit
why_of Memory = why.Limit

-- the cause is this fault
abbrev pub IsRefusedFor : ScriptFault → Stop → Type 0
IsRefusedFor fault = IsRefusedAs (why_of fault) (fault_text fault)
