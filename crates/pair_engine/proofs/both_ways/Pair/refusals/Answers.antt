-- What has landed of a way is what its counts say.
use Rattle.std.proofs.Common.{sym, ◌∙◌, ap}
use Rattle.law_walk.specs.Common.{refusals_of}
use Rattle.law_pair.specs.Common.{counts_on}
use Rattle.law_pair.specs.declared.pair_events.Way.TheVariants.{There, Back}
use Rattle.pair_engine.specs.PairAfterEvent.{Paired, leg_on}
use Rattle.pair_engine.proofs.both_ways.Pair.refusals.Goals as goal

pub returns-in-There : goal.returns-in-There
returns-in-There c =
    c.refusals.ensures ∙ c.self.invariant.there_way.landed.refusals
    ∙ ap (λ (p : Paired). refusals_of (leg_on p There) (counts_on p.counts There)) c.self.view_is
    ∙ ap (λ w. refusals_of (leg_on c.args.self.now w) (counts_on c.args.self.now.counts w)) (sym c.in-There.is)

pub returns-in-Back : goal.returns-in-Back
returns-in-Back c =
    c.refusals-in-Back.ensures ∙ c.self.invariant.back_way.landed.refusals
    ∙ ap (λ (p : Paired). refusals_of (leg_on p Back) (counts_on p.counts Back)) c.self.view_is
    ∙ ap (λ w. refusals_of (leg_on c.args.self.now w) (counts_on c.args.self.now.counts w)) (sym c.in-Back.is)
