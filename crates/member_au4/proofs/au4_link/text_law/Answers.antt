-- By the lines of the text, and the law of pointers.
use Rattle.member_au4.proofs.LinkDraftAndActionLaws.{valid_link, link-taken, link-given, link-written}
use Rattle.member_au4.proofs.au4_link.text_law.Goals as goal

pub returns-clause-valid : goal.returns-clause-valid
returns-clause-valid c = valid_link

pub returns-clause-taken : goal.returns-clause-taken
returns-clause-taken c = link-taken

pub returns-clause-given : goal.returns-clause-given
returns-clause-given c = link-given

pub returns-clause-written : goal.returns-clause-written
returns-clause-written c = link-written
