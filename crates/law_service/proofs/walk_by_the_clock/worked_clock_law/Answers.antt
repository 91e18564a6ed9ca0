-- Worked walks by the clock, computed.
use Rattle.std.proofs.Common.{ℕ, [], ◌∷◌, refl, arith}
use Rattle.std.proofs.lemmas.List.Sorted.{IsNonDecreasingBy-short, IsNonDecreasingBy-push}
use Rattle.law_model.specs.Common.{frame_dues, command_dues, held, full, pop, pop_lines, run, carries_from}
use Rattle.law_progress.specs.Progress.{IsPath, AllPaths, IsPlanOf}
use Rattle.law_progress.specs.WorkedPlans.{fine}
use Rattle.law_service.specs.ClockedWalk.{after_rounds, two_lines}
use Rattle.law_service.proofs.walk_by_the_clock.worked_clock_law.Goals as goal

fine-path : (total delay : ℕ) → IsPath total 0 (fine total delay)
fine-path total delay = record {
  one = λ x low. (omega arith, omega arith);
  late = λ x low. omega (arith, low);
  ended = omega arith;
  early = λ x y low few. omega (arith, low, few);
  left = λ x y low few. omega (arith, low, few);
  rises = λ y. omega arith;
  most = λ y. omega arith;
}

two_lines-plan : IsPlanOf 2 0 0 two_lines
unfolding AllPaths frame_dues command_dues
two_lines-plan = record {
  some = omega arith;
  paths = (
    record { is_path = fine-path 41 0; most = omega arith; least = omega arith },
    (record { is_path = fine-path 41 2; most = omega arith; least = omega arith }, tt),
  );
  frames = IsNonDecreasingBy-push (λ (n : ℕ). n) (5 ∷ []) 7
      (IsNonDecreasingBy-short (λ (n : ℕ). n) (5 ∷ []) (omega arith)) (λ d some. omega arith);
  commands = IsNonDecreasingBy-short (λ (n : ℕ). n) (0 ∷ []) (omega arith);
  ring = omega arith;
  spread = omega arith;
  lag = omega arith;
}

pub returns : goal.returns
unfolding after_rounds run held full frame_dues command_dues pop pop_lines carries_from
returns c = record {
  keeps = record {
    is_plan = two_lines-plan;
    slowest = record { line = 1; path = fine 41 2; there = refl; is = refl };
    lag = omega arith;
  };
  rounds = refl;
  stalls = refl;
}
