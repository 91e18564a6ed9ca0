-- The notes on what is wrong with a live text, and the status of each.
use Rattle.std.specs.Prelude.{ℕ, List}
use Rattle.command_parts.specs.Common.{fault_text, line_text, why_of}
use Rattle.command_parts.specs.declared.stop_and_status.Refusal.{Refusal}
use Rattle.command_parts.specs.declared.stop_and_status.Refusal.TheVariants as why
use Rattle.text_live.specs.declared.live_fault.LiveFault.{LiveFault}
use Rattle.text_live.specs.declared.live_fault.LiveFault.TheVariants.{Script, Line}
use Rattle.text_live.specs.LiveHelpTexts.{live_help_text, live_kind}

abbrev pub live_fault_text : LiveFault → List ℕ
live_fault_text (Script fault) = fault_text fault
live_fault_text (Line number fault) = line_text number (live_kind fault) (live_help_text fault)

-- a line is faulty, or slips, spread or lag don't fit
abbrev pub live_why : LiveFault → Refusal
live_why (Script fault) = why_of fault
live_why (Line number fault) = why.Line
