-- By the laws of the frames and of the headers.
use Rattle.fate_walks.proofs.AcceptedAndCarriedFrameLaws.{frames-carried, header-sent}
use Rattle.fate_walks.proofs.walk_gfp.carried_law.Goals as goal

pub returns : goal.returns
returns c = record { frames = frames-carried; header = header-sent }
