-- Events that are tried again and again take all rows.
use Rattle.law_service.proofs.RepeatedTurnAndDelayLaws.{reached-rises, reached-turns, leg-turns, leg-bound}
use Rattle.law_service.proofs.events_tried_again.turns_law.Goals as goal

pub returns : goal.returns
returns c = record { rises = reached-rises; enough = reached-turns; legs = leg-turns; told = leg-bound }
