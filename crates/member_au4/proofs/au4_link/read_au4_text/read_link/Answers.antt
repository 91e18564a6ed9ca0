-- What is made of what the lines say.
use Rattle.std.proofs.Common.{ap, sym, subst}
use Rattle.text_lines.specs.LanguageTable.{said_in, formed}
use Rattle.text_lines.proofs.LineLanguageAndTableLaws.{fault_formed}
use Rattle.member_au4.specs.au4_link.LinkTextLines.{link_table}
use Rattle.member_au4.specs.au4_link.Link.{link_in, IsLink}
use Rattle.member_au4.proofs.LinkDraftAndActionLaws.{valid_link, draft-inside}
use Rattle.member_au4.proofs.au4_link.read_au4_text.read_link.Goals as goal

pub finished-requires : goal.finished-requires
finished-requires c = draft-inside c.args.text.now c.in-Ok.draft c.in-Ok.ensures.ok

pub returns-in-Ok-finished-clause-valid : goal.returns-in-Ok-finished-clause-valid
returns-in-Ok-finished-clause-valid c =
    subst IsLink (sym c.in-Ok-finished.ensures)
    (valid_link c.args.text.now (link_in c.in-Ok.draft) (ap (formed link_in) c.in-Ok.ensures.ok))

pub returns-in-Err-clause-fault : goal.returns-in-Err-clause-fault
returns-in-Err-clause-fault c =
    fault_formed link_in (said_in link_table c.args.text.now) c.in-Err.fault c.in-Err.ensures.err
