-- What is said of how to write a faulty line of a link's text.
use Rattle.std.specs.Prelude.{ℕ, ◌+◌, List, ◌++◌, codes, decimal}
use Rattle.text_lines.specs.declared.text_faults.LineFault.{LineFault}
use Rattle.text_help.specs.LineHelpTexts.{fault_text}
use Rattle.member_au4.specs.declared.au4_link.au4_keyword.Au4Keyword.{Au4Keyword}
use Rattle.member_au4.specs.declared.au4_link.au4_keyword.Au4Keyword.TheVariants as word
use Rattle.member_au4.specs.declared.au4_link.au4_text_fault.Early.{Early}

abbrev pub keyword_text : Au4Keyword → List ℕ
keyword_text word.Start = codes "start"
keyword_text word.Frames = codes "frames"
keyword_text word.Up = codes "up"
keyword_text word.Down = codes "down"
keyword_text word.New = codes "new"

abbrev pub early_text : Early → List ℕ
early_text last =
    codes "after frame " ++ decimal last.frame ++ codes " the next one is " ++ decimal (last.frame + 4)
    ++ codes " at least"

abbrev pub help_of : LineFault Au4Keyword Early → List ℕ
help_of fault = fault_text keyword_text (codes "start, frames, up, down, new") early_text fault
