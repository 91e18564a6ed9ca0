-- There is a path for each line.
use Rattle.std.proofs.Common.{length, sym, ◌∙◌, ap}
use Rattle.law_pair.specs.Common.{plan_on}
use Rattle.law_pair.specs.declared.pair_events.Way.TheVariants.{There, Back}
use Rattle.pair_engine.specs.PairAfterEvent.{Paired, plan_of}
use Rattle.pair_engine.proofs.PairEventAndRoundLaws.{paths-size}
use Rattle.pair_engine.proofs.both_ways.Pair.lines.Goals as goal

pub returns-in-There-clause-paths : goal.returns-in-There-clause-paths
returns-in-There-clause-paths c =
    let f = c.self.inside in
    paths-size f.there.script f.back.script c.self.invariant.pair.there_way
    ∙ ap (λ (p : Paired). length (plan_on (plan_of p) There).paths) c.self.view_is
    ∙ ap (λ w. length (plan_on (plan_of c.args.self.now) w).paths) (sym c.in-There.is)

pub returns-in-Back-clause-paths : goal.returns-in-Back-clause-paths
returns-in-Back-clause-paths c =
    let f = c.self.inside in
    paths-size f.back.script f.there.script c.self.invariant.pair.back_way
    ∙ ap (λ (p : Paired). length (plan_on (plan_of p) Back).paths) c.self.view_is
    ∙ ap (λ w. length (plan_on (plan_of c.args.self.now) w).paths) (sym c.in-Back.is)
