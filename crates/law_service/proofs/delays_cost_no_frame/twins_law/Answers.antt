-- Delays and rings cost time and no frame.
use Rattle.law_service.proofs.RepeatedTurnAndDelayLaws.{twin-report, twin-fates}
use Rattle.law_service.proofs.delays_cost_no_frame.twins_law.Goals as goal

pub returns : goal.returns
returns c = record { report = twin-report; fates = twin-fates }
