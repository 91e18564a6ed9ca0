-- One draw on, and after the last one.
use Rattle.std.proofs.Common.{◌<◌, ◌≤◌, ◌∙◌, ◌+◌, ◌-◌, ℕ, List, ◌++◌, length, take, ap, sym, arith}
use Rattle.std.proofs.lemmas.List.{take_more_set, take_all}
use Rattle.law_rates.specs.Draws.{draws}
use Rattle.law_rates.proofs.DrawLaws.{draws_next, after_next, draws_end, after_end}
use Rattle.law_rates.proofs.number_draws.Draws.fill.Goals as goal

pub loop-i-preserved : goal.loop-i-preserved
loop-i-preserved c =
    let count = length c.args.octets.now in
    let inside : c.loop-i.i < length c.loop-i.octets = omega (arith, c.loop-i.auto.octets, c.loop-i-test.true) in
    record {
      drawn = draws_next _ (take c.loop-i.i c.loop-i.octets) count c.loop-i.i 256 c.loop-i.self.state
          c.below.new.self.state c.below.result
          c.loop-i.invariant.drawn c.loop-i-test.true c.below.ensures.state c.below.ensures.drawn
          ∙ ap (λ (l : List ℕ). l ++ draws (count - (c.loop-i.i + 1)) 256 c.below.new.self.state)
          (sym (take_more_set c.loop-i.octets c.loop-i.i c.below.result inside));
      state = after_next _ count c.loop-i.i c.loop-i.self.state c.below.new.self.state c.loop-i.invariant.state
          c.loop-i-test.true c.below.ensures.state;
    }

pub returns-clause-octets : goal.returns-clause-octets
returns-clause-octets c =
    let past : length c.loop-i.octets ≤ c.loop-i.i = omega (arith, c.loop-i.auto.octets, c.loop-i-test.false) in
    sym (take_all c.loop-i.i c.loop-i.octets past)
    ∙ draws_end _ (take c.loop-i.i c.loop-i.octets) (length c.args.octets.now) c.loop-i.i 256 c.loop-i.self.state
    c.loop-i.invariant.drawn c.loop-i-test.false

pub returns-clause-state : goal.returns-clause-state
returns-clause-state c = after_end _ (length c.args.octets.now) c.loop-i.i c.loop-i.self.state c.loop-i.invariant.state
    c.loop-i-test.false
