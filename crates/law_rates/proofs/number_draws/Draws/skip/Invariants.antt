-- How many draws are one step, and the steps that are left.
use Rattle.std.proofs.Common.{◌≡◌, ℕ, ◌*◌}
use Rattle.law_rates.specs.Draws.{after_draws}
use Rattle.law_rates.proofs.LeapLaws.{IsLeap}
use Rattle.law_rates.proofs.number_draws.Draws.skip.Given as goal

abbrev pub invariant-loop-left : goal.invariant-loop-left
invariant-loop-left l =
    (step : ℕ) × IsLeap step l.scale l.offset
    × (after_draws l.fn.count l.fn.self.state ≡ after_draws (step * l.left) l.self.state)

abbrev pub decreases-loop-left : goal.decreases-loop-left
decreases-loop-left l = l.left
