-- What is said of how to write a live line that is faulty. These texts are this project's own.
use Rattle.std.specs.Prelude.{ℕ, List, ◌++◌, codes, decimal}
use Rattle.text_lines.specs.declared.text_faults.LineKind.{LineKind}
use Rattle.text_lines.specs.declared.text_faults.LineKind.TheVariants as kind
use Rattle.text_lines.specs.Fields.{field_kind}
use Rattle.text_help.specs.LineHelpTexts.{field_text, count_text, order_text, first_text}
use Rattle.text_live.specs.declared.live_keyword.EarlierPart.{EarlierPart}
use Rattle.text_live.specs.declared.live_keyword.EarlierPart.TheVariants as part
use Rattle.text_live.specs.declared.live_keyword.LiveKeyword.{LiveKeyword}
use Rattle.text_live.specs.declared.live_keyword.LiveKeyword.TheVariants as word
use Rattle.text_live.specs.declared.live_fault.LiveLineFault.{LiveLineFault}
use Rattle.text_live.specs.declared.live_fault.LiveLineFault.TheVariants as wrong

-- ---- kinds
abbrev pub live_kind : LiveLineFault → LineKind
live_kind wrong.First = kind.Word
live_kind (wrong.Count keyword follow) = kind.Word
live_kind (wrong.Field fault) = field_kind fault
live_kind (wrong.Behind p) = kind.Order
live_kind (wrong.FullLine line) = kind.Range
live_kind wrong.LastTick = kind.Order
live_kind (wrong.CutAlready line) = kind.Order
live_kind (wrong.FailureBefore end) = kind.Order
live_kind (wrong.NotCut line) = kind.Order

-- ---- names
abbrev pub keyword_text : LiveKeyword → List ℕ
keyword_text word.Frame = codes "frame"
keyword_text word.Add = codes "add"
keyword_text word.Remove = codes "remove"
keyword_text word.Cut = codes "cut"
keyword_text word.Mend = codes "mend"
keyword_text word.Pass = codes "pass"

abbrev pub part_text : EarlierPart → List ℕ
part_text part.Configuration = codes "configuration"
part_text part.Windows = codes "fail and lost"

-- ---- texts
-- the words that a line may begin with
abbrev pub all_words : List ℕ
all_words =
    codes "container, lines, delays, ring, lag, ticks, sink, holdoff, restore, statuses, fail, lost, frame, add, remove, cut, mend, pass"

abbrev pub live_help_text : LiveLineFault → List ℕ
live_help_text wrong.First = first_text all_words
live_help_text (wrong.Count keyword follow) = count_text (keyword_text keyword) 1 follow
live_help_text (wrong.Field fault) = field_text fault
live_help_text (wrong.Behind p) = order_text (part_text p) (codes "live lines")
live_help_text (wrong.FullLine line) = codes "line " ++ decimal line ++ codes " has 256 failures already"
live_help_text wrong.LastTick = codes "the last tick has passed"
live_help_text (wrong.CutAlready line) = codes "line " ++ decimal line ++ codes " is cut already"
live_help_text (wrong.FailureBefore end) = codes "the failure before ends at " ++ decimal end
live_help_text (wrong.NotCut line) = codes "line " ++ decimal line ++ codes " isn't cut"
