-- The notes on what is wrong with a live text of both ways, and the status of each.
use Rattle.std.specs.Prelude.{ℕ, List, codes}
use Rattle.text_lines.specs.declared.text_faults.LineKind.{LineKind}
use Rattle.text_lines.specs.declared.text_faults.LineKind.TheVariants as kind
use Rattle.text_help.specs.LineHelpTexts.{count_text}
use Rattle.text_live.specs.LiveHelpTexts.{keyword_text, live_help_text, live_kind}
use Rattle.command_parts.specs.Common.{line_text}
use Rattle.command_parts.specs.declared.stop_and_status.Refusal.{Refusal}
use Rattle.command_parts.specs.declared.stop_and_status.Refusal.TheVariants as why
use Rattle.text_pairs.specs.Faults.{pair_fault_text, pair_why}
use Rattle.pair_live.specs.declared.live_pair_fault.LivePairFault.{LivePairFault}
use Rattle.pair_live.specs.declared.live_pair_fault.LivePairFault.TheVariants.{Pair, Line}
use Rattle.pair_live.specs.declared.live_pair_fault.PairLineFault.{PairLineFault}
use Rattle.pair_live.specs.declared.live_pair_fault.PairLineFault.TheVariants as line_wrong

-- ---- of a line
abbrev pub pair_line_kind : PairLineFault → LineKind
pair_line_kind (line_wrong.Live fault) = live_kind fault
pair_line_kind (line_wrong.Count keyword follow) = kind.Word
pair_line_kind line_wrong.Way = kind.Word

abbrev pub pair_line_help : PairLineFault → List ℕ
pair_line_help (line_wrong.Live fault) = live_help_text fault
pair_line_help (line_wrong.Count keyword follow) = count_text (keyword_text keyword) 2 follow
pair_line_help line_wrong.Way = codes "word 2 is there or back"

-- ---- of a text
abbrev pub live_pair_fault_text : LivePairFault → List ℕ
live_pair_fault_text (Pair fault) = pair_fault_text fault
live_pair_fault_text (Line number fault) = line_text number (pair_line_kind fault) (pair_line_help fault)

-- a line is faulty, or isn't there, or the two scripts don't fit together
abbrev pub live_pair_why : LivePairFault → Refusal
live_pair_why (Pair fault) = pair_why fault
live_pair_why (Line number fault) = why.Line
