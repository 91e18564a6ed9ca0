-- One more was fed.
use Rattle.std.proofs.Common.{refl}
use Rattle.member_au4.proofs.NumberedVcCountsLaws.{fed_more}
use Rattle.member_au4.proofs.au4_link.numbered_vcs.NumberedVcsVcFeed.next.Goals as goal

pub returns : goal.returns
returns c start vcs fed = fed_more c.args.self.now.next _ vcs c.write_vc.new.out fed c.write_vc.ensures refl
