-- The table that the decision steps leave.
use Rattle.std.proofs.Common.{◌≡◌, sym, ◌∙◌, ap, subst}
use Rattle.law_model.specs.Common.{steps_in}
use Rattle.law_model.specs.session.Scenario.{packets_in}
use Rattle.law_model.specs.declared.script_types.Script.{Script}
use Rattle.law_live.specs.Common.{leg_on}
use Rattle.law_walk.specs.Common.{table_in}
use Rattle.law_pair.specs.Common.{counts_on, way_of}
use Rattle.pair_engine.specs.LivePairs.{PairLives, PairWalking, walking_counts}
use Rattle.pair_engine.proofs.live_pair.LivePair.table.Goals as goal

pub returns-in-There-clause-table : goal.returns-in-There-clause-table
returns-in-There-clause-table c =
    subst (λ way. (one other : Script) → PairLives one other c.args.self.now →
    c.table.result.now.source.table
    ≡ table_in (leg_on one other way) (counts_on (walking_counts c.args.self.now) way).ticks) (sym c.in-There.is)
    (subst (λ (pair : PairWalking). (one other : Script) → PairLives one other pair →
    c.table.result.now.source.table ≡ table_in (way_of one other) (walking_counts pair).there.ticks) c.self.view_is
    (λ one other lives. c.table.ensures.table (way_of one other) (packets_in c.self.inside.there.core.sink.taken)
    lives.there_way.stands))

pub returns-in-There-clause-steps : goal.returns-in-There-clause-steps
returns-in-There-clause-steps c =
    c.table.ensures.steps
    ∙ ap (λ (pair : PairWalking). steps_in (walking_counts pair).there.ticks) c.self.view_is
    ∙ ap (λ way. steps_in (counts_on (walking_counts c.args.self.now) way).ticks) (sym c.in-There.is)

pub returns-in-Back-clause-table : goal.returns-in-Back-clause-table
returns-in-Back-clause-table c =
    subst (λ way. (one other : Script) → PairLives one other c.args.self.now →
    c.table-in-Back.result.now.source.table
    ≡ table_in (leg_on one other way) (counts_on (walking_counts c.args.self.now) way).ticks) (sym c.in-Back.is)
    (subst (λ (pair : PairWalking). (one other : Script) → PairLives one other pair →
    c.table-in-Back.result.now.source.table ≡ table_in (way_of other one) (walking_counts pair).back.ticks)
    c.self.view_is
    (λ one other lives. c.table-in-Back.ensures.table (way_of other one)
    (packets_in c.self.inside.back.core.sink.taken) lives.back_way.stands))

pub returns-in-Back-clause-steps : goal.returns-in-Back-clause-steps
returns-in-Back-clause-steps c =
    c.table-in-Back.ensures.steps
    ∙ ap (λ (pair : PairWalking). steps_in (walking_counts pair).back.ticks) c.self.view_is
    ∙ ap (λ way. steps_in (counts_on (walking_counts c.args.self.now) way).ticks) (sym c.in-Back.is)
