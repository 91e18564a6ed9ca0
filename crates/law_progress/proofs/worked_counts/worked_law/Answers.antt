-- Worked walks, computed.
use Rattle.std.proofs.Common.{ℕ, [], ◌∷◌, refl, arith}
use Rattle.std.proofs.lemmas.List.Sorted.{IsNonDecreasingBy-short}
use Rattle.law_model.specs.Common.{frame_dues, command_dues, held, full, pop, pop_lines, run, carries_from, drain}
use Rattle.law_model.specs.Common.{sum_delays}
use Rattle.law_progress.specs.Progress.{IsPath, AllPaths, IsPlanOf}
use Rattle.law_progress.specs.WorkedPlans.{fine, one_line, two_items}
use Rattle.law_progress.proofs.worked_counts.worked_law.Goals as goal

fine-path : (total delay : ℕ) → IsPath total 0 (fine total delay)
fine-path total delay = record {
  one = λ x low. (omega arith, omega arith);
  late = λ x low. omega (arith, low);
  ended = omega arith;
  early = λ x y low few. omega (arith, low, few);
  left = λ x y low few. omega (arith, low, few);
  rises = λ y. omega arith;
  most = λ y. omega arith;
}

one_line-plan : IsPlanOf 0 0 0 (one_line 1 two_items)
unfolding AllPaths frame_dues command_dues
one_line-plan = record {
  some = omega arith;
  paths = (record { is_path = fine-path 41 0; most = omega arith; least = omega arith }, tt);
  frames = IsNonDecreasingBy-short (λ due. due) (5 ∷ []) (omega arith);
  commands = IsNonDecreasingBy-short (λ due. due) (0 ∷ []) (omega arith);
  ring = omega arith;
  spread = omega arith;
  lag = omega arith;
}

pub returns : goal.returns
unfolding run held full frame_dues command_dues pop pop_lines carries_from drain sum_delays
returns c = record {
  plan = record { slow = 0; fast = 0; slip = 0; is = one_line-plan };
  rx_full = refl;
  back_missing = refl;
  back_empty = refl;
  tx_full = refl;
  waiting = refl;
  held = refl;
  not_due = refl;
  drained = refl;
}
