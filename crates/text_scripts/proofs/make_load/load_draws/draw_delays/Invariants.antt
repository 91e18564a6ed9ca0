-- What was drawn so far, and the draws that are left.
use Rattle.std.proofs.Common.{◌≡◌, ◌-◌, ◌++◌}
use Rattle.law_rates.specs.Draws.{draws, after_draws}
use Rattle.text_scripts.proofs.make_load.load_draws.draw_delays.Given as goal

abbrev pub invariant-loop : goal.invariant-loop
invariant-loop l = record {
  drawn : draws l.lines 41 l.fn.from.state ≡ l.delays.items ++ draws (l.lines - l.counter) 41 l.from.state;
  state : after_draws l.lines l.fn.from.state ≡ after_draws (l.lines - l.counter) l.from.state;
}
