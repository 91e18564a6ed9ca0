-- What waits in the direction is what the leg and the counts say.
use Rattle.std.proofs.Common.{◌≡◌, sym, ◌∙◌, subst}
use Rattle.law_model.specs.session.Scenario.{packets_in}
use Rattle.law_model.specs.declared.script_types.Script.{Script}
use Rattle.law_live.specs.Common.{leg_on}
use Rattle.law_pair.specs.Common.{counts_on, way_of}
use Rattle.walk_engine.specs.Common.{waiting_in}
use Rattle.walk_engine.proofs.TickAndFullRingLaws.{waiting-after}
use Rattle.pair_engine.specs.LivePairs.{PairLives, PairWalking, walking_counts}
use Rattle.pair_engine.proofs.live_pair.LivePair.waiting.Goals as goal

pub returns-in-There-clause-waits : goal.returns-in-There-clause-waits
returns-in-There-clause-waits c =
    subst (λ way. (one other : Script) → PairLives one other c.args.self.now →
    c.waiting.result ≡ waiting_in (leg_on one other way) (counts_on (walking_counts c.args.self.now) way))
    (sym c.in-There.is)
    (subst (λ (pair : PairWalking). (one other : Script) → PairLives one other pair →
    c.waiting.result ≡ waiting_in (way_of one other) (walking_counts pair).there) c.self.view_is
    (λ one other lives. (rw (c.queue.ensures, c.core.ensures, c.source.ensures) at c.waiting.ensures.count)
    ∙ waiting-after (way_of one other) (packets_in c.self.inside.there.core.sink.taken) _ lives.there_way.stands))

pub returns-in-Back-clause-waits : goal.returns-in-Back-clause-waits
returns-in-Back-clause-waits c =
    subst (λ way. (one other : Script) → PairLives one other c.args.self.now →
    c.waiting-in-Back.result ≡ waiting_in (leg_on one other way) (counts_on (walking_counts c.args.self.now) way))
    (sym c.in-Back.is)
    (subst (λ (pair : PairWalking). (one other : Script) → PairLives one other pair →
    c.waiting-in-Back.result ≡ waiting_in (way_of other one) (walking_counts pair).back) c.self.view_is
    (λ one other lives.
    (rw (c.queue-in-Back.ensures, c.core-in-Back.ensures, c.source-in-Back.ensures) at c.waiting-in-Back.ensures.count)
    ∙ waiting-after (way_of other one) (packets_in c.self.inside.back.core.sink.taken) _ lives.back_way.stands))
