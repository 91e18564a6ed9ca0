-- One draw on, and after the last one.
use Rattle.std.proofs.Common.{◌≡◌, ◌∙◌, ◌+◌, ◌-◌, ℕ, List, [], ◌∷◌, ◌++◌, ap, sym, rules}
use Rattle.law_rates.specs.Draws.{draws}
use Rattle.law_rates.proofs.DrawLaws.{draws_next, after_next, draws_end, after_end}
use Rattle.text_scripts.proofs.make_load.load_draws.draw_octets.Goals as goal

pub loop-preserved : goal.loop-preserved
loop-preserved c =
    let pushed : c.push.new.self.items ≡ c.loop.octets.items ++ c.below.result ∷ [] = search rules in
    record {
      drawn = draws_next _ c.loop.octets.items c.args.count c.loop.counter 256 c.loop.from.state c.below.new.self.state
          c.below.result
          c.loop.invariant.drawn c.loop-test.true c.below.ensures.state c.below.ensures.drawn
          ∙ ap (λ (l : List ℕ). l ++ draws (c.args.count - (c.loop.counter + 1)) 256 c.below.new.self.state)
          (sym pushed);
      state = after_next _ c.args.count c.loop.counter c.loop.from.state c.below.new.self.state c.loop.invariant.state
          c.loop-test.true c.below.ensures.state;
    }

pub returns-clause-octets : goal.returns-clause-octets
returns-clause-octets c = draws_end _ c.loop.octets.items c.args.count c.loop.counter 256 c.loop.from.state
    c.loop.invariant.drawn c.loop-test.false

pub returns-clause-state : goal.returns-clause-state
returns-clause-state c = after_end _ c.args.count c.loop.counter c.loop.from.state c.loop.invariant.state
    c.loop-test.false
