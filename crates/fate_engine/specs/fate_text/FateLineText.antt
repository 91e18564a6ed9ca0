-- The text of fates line by line. These texts are this project's own.
use Rattle.std.specs.Prelude.{ℕ, ◌++◌, Bool, List, [], codes, decimal, Option, Some, None}
use Rattle.fate_engine.specs.declared.fate_law.RowSegment.{RowSegment}
use Rattle.fate_engine.specs.fate_law.SessionFates.{End}
use Rattle.fate_engine.specs.fate_law.FateText.{truth_text, ended_text}
use Rattle.fate_engine.specs.declared.fate_text.fate_lines.ToldMark.{ToldMark}
use Rattle.fate_engine.specs.declared.fate_text.fate_lines.Tally.{Tally}

-- what is confirmed first in a segment
abbrev pub told_text : Option ToldMark → List ℕ
told_text None = codes "none"
told_text (Some mark) = truth_text mark.is_true ++ codes " " ++ decimal mark.row

-- the line of a segment
abbrev pub told_segment : RowSegment → Option ToldMark → List ℕ
told_segment segment mark = codes "segment " ++ decimal segment.first ++ codes " " ++ decimal segment.end ++ codes " "
    ++ told_text mark ++ codes "\n"

-- the line of a client item by its number, its due tick and its end
abbrev pub item_text : ℕ → ℕ → End → List ℕ
item_text number due end = ended_text (record { number = number; due = due; frame = []; end = end })

-- the last line, of the ticks made, the rows taken, the items of each end, and whether all marks are true
abbrev pub last_text : ℕ → ℕ → Tally → Bool → List ℕ
last_text ticks rows tally starts =
    codes "fates ticks " ++ decimal ticks ++ codes " taken " ++ decimal rows ++ codes " frames " ++ decimal tally.frames
    ++ codes " got " ++ decimal tally.got
    ++ codes " lost " ++ decimal tally.lost ++ codes " waits " ++ decimal tally.waits ++ codes " refused " ++ decimal
    tally.refused
    ++ codes " starts " ++ truth_text starts ++ codes "\n"
