-- After a walk.
use Rattle.fate_engine.proofs.GotFateAndLandedFrameLaws.{starts-decided, got-delivered}
use Rattle.fate_engine.proofs.fate_law.fate_law.Goals as goal

pub returns : goal.returns
returns c = record { starts = starts-decided; got = got-delivered }
