-- The laws of streams that users of a filler need.
use Rattle.law_model.proofs.StreamOfPiecesLaws.{reached-fewest, reached-join, reached-begun}
use Rattle.gfp_fill.proofs.IdlesAndNextPiecesLaws.{take-stream_of, begun-next_pieces, begun-opening}
use Rattle.gfp_fill.proofs.SenderAndFillerStepLaws.{long, one_queue}
use Rattle.gfp_fill.proofs.filling_law.Goals as goal
use Rattle.std.proofs.Common.{arith}

pub returns-clause-fewest : goal.returns-clause-fewest
returns-clause-fewest c = reached-fewest

pub returns-clause-parts : goal.returns-clause-parts
returns-clause-parts c = reached-join

pub returns-clause-begun : goal.returns-clause-begun
returns-clause-begun c = reached-begun

pub returns-clause-next : goal.returns-clause-next
returns-clause-next c = begun-next_pieces

pub returns-clause-queue : goal.returns-clause-queue
returns-clause-queue c = one_queue

pub returns-clause-long : goal.returns-clause-long
returns-clause-long c = long

pub returns-clause-written : goal.returns-clause-written
returns-clause-written c pieces more place within = take-stream_of place pieces more (omega (arith, long pieces))

pub returns-clause-opening : goal.returns-clause-opening
returns-clause-opening c = begun-opening
