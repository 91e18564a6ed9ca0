-- However far the stream is made, its pieces are the fewest, and what is begun of a channel and what waits are together
-- the same.
use Rattle.gfp_channels.proofs.LinearStreamPlaceLaws.{reached-fewest, reached-next}
use Rattle.gfp_channels.proofs.BusyChannelTurnLaws.{reached-keeps}
use Rattle.gfp_channels.proofs.gfp_linear.turns_law.Goals as goal

pub returns-clause-fewest : goal.returns-clause-fewest
returns-clause-fewest c = reached-fewest

pub returns-clause-next : goal.returns-clause-next
returns-clause-next c = reached-next

pub returns-clause-keeps : goal.returns-clause-keeps
returns-clause-keeps c place cid shared = reached-keeps place shared cid
