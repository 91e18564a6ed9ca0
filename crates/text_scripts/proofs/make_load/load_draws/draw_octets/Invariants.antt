-- What was drawn so far, and the draws that are left.
use Rattle.std.proofs.Common.{◌≡◌, ◌-◌, ◌++◌}
use Rattle.law_rates.specs.Draws.{draws, after_draws}
use Rattle.text_scripts.proofs.make_load.load_draws.draw_octets.Given as goal

abbrev pub invariant-loop : goal.invariant-loop
invariant-loop l = record {
  drawn : draws l.count 256 l.fn.from.state ≡ l.octets.items ++ draws (l.count - l.counter) 256 l.from.state;
  state : after_draws l.count l.fn.from.state ≡ after_draws (l.count - l.counter) l.from.state;
}
