-- What the line of delays says.
use Rattle.fate_service.proofs.DelayShareLaws.{half-is, most-is}
use Rattle.fate_service.proofs.service_law.delays_law.Goals as goal

pub returns : goal.returns
returns c = record { half = half-is; most = most-is }
