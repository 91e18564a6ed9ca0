-- By the table of the way, whose ticks are those of both.
use Rattle.std.proofs.Common.{◌<◌, ◌∙◌, ap, subst, sym}
use Rattle.law_model.specs.Common.{Table, state_of}
use Rattle.law_walk.specs.Common.{table_in}
use Rattle.law_live.specs.Common.{leg_on}
use Rattle.pair_live.specs.declared.answered_pair.WayNumbers.{WayNumbers}
use Rattle.pair_live.proofs.PairStandLaws.{lives-together}
use Rattle.pair_live.proofs.answered_pair.AnsweredPair.states.Goals as goal

pub returns-then-ticks-eq8 : goal.returns-then-ticks-eq8
returns-then-ticks-eq8 c one other lives members eight m low =
    let self = c.args.self.now in
    let way = c.args.way in
    c.states_of.ensures m (subst (λ (n : WayNumbers). m < n.lines) (sym c.numbers.ensures) low)
    ∙ ap (λ (t : Table). state_of t m)
    (c.table.ensures.table one other lives
    ∙ ap (table_in (leg_on one other way)) (lives-together one other self.pair lives way))
