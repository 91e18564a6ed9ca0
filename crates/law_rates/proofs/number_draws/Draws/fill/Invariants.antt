-- What was drawn so far, and the draws that are left.
use Rattle.std.proofs.Common.{◌≡◌, ◌-◌, ◌++◌, length, take}
use Rattle.law_rates.specs.Draws.{draws, after_draws}
use Rattle.law_rates.proofs.number_draws.Draws.fill.Given as goal

abbrev pub invariant-loop-i : goal.invariant-loop-i
invariant-loop-i l = record {
  drawn : draws (length l.fn.octets) 256 l.fn.self.state ≡ take l.i l.octets ++ draws
      (length l.fn.octets - l.i) 256 l.self.state;
  state : after_draws (length l.fn.octets) l.fn.self.state ≡ after_draws (length l.fn.octets - l.i) l.self.state;
}
