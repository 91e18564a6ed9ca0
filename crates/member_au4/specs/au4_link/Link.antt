-- The link that a text says, or its first fault.
use Rattle.std.specs.Prelude.{◌≤◌, ℕ, ◌-◌, List, ◌++◌, length, replicate, Result}
use Rattle.text_lines.specs.LanguageTable.{said_in, formed}
use Rattle.text_lines.specs.declared.text_faults.LineFault.{LineFault}
use Rattle.member_au4.specs.declared.au4_pointer.au_frame.Action.TheVariants.{Keep}
use Rattle.member_au4.specs.au4_pointer.SentFrames.{AreAccepted}
use Rattle.member_au4.specs.declared.au4_link.au4_keyword.Au4Keyword.{Au4Keyword}
use Rattle.member_au4.specs.declared.au4_link.au4_text_fault.Early.{Early}
use Rattle.member_au4.specs.declared.au4_link.au4_draft.Au4Draft.{Au4Draft}
use Rattle.member_au4.specs.declared.au4_link.au4_draft.Link.{Link}
use Rattle.member_au4.specs.au4_link.LinkTextLines.{link_table}

-- the frames that no line names keep the value
abbrev pub link_in : Au4Draft → Link
link_in d = record { start = d.start; actions = d.actions ++ replicate (d.frames - length d.actions) Keep }

-- a link, or the number of the first faulty line, counted from 1, and what is wrong with it
abbrev pub link_of : List ℕ → Result Link (ℕ × LineFault Au4Keyword Early)
link_of text = formed link_in (said_in link_table text)

-- its start is a value, it has 1 to 100,000 frames, and a source refuses none of its actions
pub record IsLink (link : Link) : Type 0 where
  pub start : link.start ≤ 782
  pub some : 1 ≤ length link.actions
  pub few : length link.actions ≤ 100000
  pub accepted : AreAccepted link.actions
