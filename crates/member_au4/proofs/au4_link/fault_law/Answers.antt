-- The first fault of a text is that of its language.
use Rattle.text_lines.proofs.LineLanguageAndTableLaws.{said_fault}
use Rattle.member_au4.specs.au4_link.LinkTextLines.{link_table}
use Rattle.member_au4.specs.au4_link.Link.{link_in}
use Rattle.member_au4.proofs.au4_link.fault_law.Goals as goal

pub returns : goal.returns
returns c = said_fault link_table link_in
