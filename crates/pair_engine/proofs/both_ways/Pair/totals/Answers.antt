-- What was counted of a way is what its leg and its counts say.
use Rattle.std.proofs.Common.{sym, ◌∙◌, ap}
use Rattle.law_model.specs.session.Scenario.{packets_in}
use Rattle.law_walk.specs.Common.{totals_of}
use Rattle.law_pair.specs.Common.{counts_on}
use Rattle.law_pair.specs.declared.pair_events.Way.TheVariants.{There, Back}
use Rattle.pair_engine.specs.PairAfterEvent.{Paired, leg_on}
use Rattle.pair_engine.specs.Ways.{leg_beside}
use Rattle.pair_engine.proofs.both_ways.Pair.totals.Goals as goal

pub returns-in-There : goal.returns-in-There
returns-in-There c =
    let f = c.self.inside in
    c.totals.ensures (leg_beside f.there f.back) (packets_in f.there.live.core.sink.taken)
    c.self.invariant.there_way.lives.stands
    ∙ ap (λ (p : Paired). totals_of (leg_on p There) (counts_on p.counts There)) c.self.view_is
    ∙ ap (λ w. totals_of (leg_on c.args.self.now w) (counts_on c.args.self.now.counts w)) (sym c.in-There.is)

pub returns-in-Back : goal.returns-in-Back
returns-in-Back c =
    let f = c.self.inside in
    c.totals-in-Back.ensures (leg_beside f.back f.there) (packets_in f.back.live.core.sink.taken)
    c.self.invariant.back_way.lives.stands
    ∙ ap (λ (p : Paired). totals_of (leg_on p Back) (counts_on p.counts Back)) c.self.view_is
    ∙ ap (λ w. totals_of (leg_on c.args.self.now w) (counts_on c.args.self.now.counts w)) (sym c.in-Back.is)
