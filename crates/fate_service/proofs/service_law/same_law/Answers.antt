-- Delays and rings change nothing of the text.
use Rattle.fate_service.proofs.ServiceTextLaws.{same-service}
use Rattle.fate_service.proofs.service_law.same_law.Goals as goal

pub returns : goal.returns
returns c = same-service
