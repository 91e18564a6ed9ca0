-- None was fed.
use Rattle.member_au4.proofs.NumberedVcCountsLaws.{fed_none}
use Rattle.member_au4.proofs.au4_link.numbered_vcs.NumberedVcs.new.Goals as goal

pub returns : goal.returns
returns c = fed_none
