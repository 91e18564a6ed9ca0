-- Worked turns, computed.
use Rattle.std.proofs.Common.{refl}
use Rattle.law_model.specs.Common.{frame_dues, command_dues, held, full, pop, pop_lines, run, sum_delays}
use Rattle.law_service.proofs.RepeatedTurnAndDelayLaws.{backwards-tries}
use Rattle.law_service.proofs.events_tried_again.worked_turns_law.Goals as goal

pub returns : goal.returns
unfolding sum_delays run held full frame_dues command_dues pop pop_lines
returns c = record { tries = backwards-tries; bound = refl; most = refl; all = refl; stuck = refl }
