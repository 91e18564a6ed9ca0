-- What was counted of a way is what its leg and its counts say.
use Rattle.std.proofs.Common.{◌≡◌, sym, subst}
use Rattle.law_model.specs.session.Scenario.{packets_in}
use Rattle.law_model.specs.declared.script_types.Script.{Script}
use Rattle.law_live.specs.Common.{leg_on}
use Rattle.law_walk.specs.Common.{totals_of}
use Rattle.law_pair.specs.Common.{counts_on, way_of}
use Rattle.pair_engine.specs.LivePairs.{PairLives, PairWalking, walking_counts}
use Rattle.pair_engine.proofs.live_pair.LivePair.totals.Goals as goal

pub returns-in-There : goal.returns-in-There
returns-in-There c =
    subst (λ way. (one other : Script) → PairLives one other c.args.self.now →
    c.totals.result ≡ totals_of (leg_on one other way) (counts_on (walking_counts c.args.self.now) way))
    (sym c.in-There.is)
    (subst (λ (pair : PairWalking). (one other : Script) → PairLives one other pair →
    c.totals.result ≡ totals_of (way_of one other) (walking_counts pair).there) c.self.view_is
    (λ one other lives. c.totals.ensures (way_of one other) (packets_in c.self.inside.there.core.sink.taken)
    lives.there_way.stands))

pub returns-in-Back : goal.returns-in-Back
returns-in-Back c =
    subst (λ way. (one other : Script) → PairLives one other c.args.self.now →
    c.totals-in-Back.result ≡ totals_of (leg_on one other way) (counts_on (walking_counts c.args.self.now) way))
    (sym c.in-Back.is)
    (subst (λ (pair : PairWalking). (one other : Script) → PairLives one other pair →
    c.totals-in-Back.result ≡ totals_of (way_of other one) (walking_counts pair).back) c.self.view_is
    (λ one other lives. c.totals-in-Back.ensures (way_of other one)
    (packets_in c.self.inside.back.core.sink.taken) lives.back_way.stands))
