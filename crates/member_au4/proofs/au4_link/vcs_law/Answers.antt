-- By the octets of each.
use Rattle.member_au4.proofs.LinkDraftAndActionLaws.{first-size, first-count}
use Rattle.member_au4.proofs.au4_link.vcs_law.Goals as goal

pub returns-clause-size : goal.returns-clause-size
returns-clause-size c = first-size

pub returns-clause-count : goal.returns-clause-count
returns-clause-count c = first-count
