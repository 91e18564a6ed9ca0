-- Worked pairs in numbers, computed.
use Rattle.std.proofs.Common.{refl}
use Rattle.law_model.specs.Common.{frame_dues, command_dues, held, full, pop, pop_lines, sum_delays}
use Rattle.law_pair.specs.Common.{left_after, first_due, pair_run, carries_on, pair_drain}
use Rattle.law_pair.proofs.worked_pairs.counts_law.Goals as goal

pub returns : goal.returns
unfolding pair_run held full pop pop_lines left_after first_due frame_dues command_dues carries_on pair_drain
    sum_delays
returns c = record {
  missing_there = refl;
  missing_back = refl;
  held = refl;
  not_due = refl;
  drained = refl;
}
