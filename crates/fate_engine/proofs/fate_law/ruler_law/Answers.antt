-- The places of client frames.
use Rattle.fate_engine.proofs.RulerAndFrameSideLaws.{reached-ruled, piece-front}
use Rattle.fate_engine.proofs.fate_law.ruler_law.Goals as goal

pub returns : goal.returns
returns c = record { reached = reached-ruled; front = piece-front }
