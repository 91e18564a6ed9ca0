-- The lines of members, by the table that the step left.
use Rattle.std.proofs.Common.{ℕ, ◌+◌, ◌*◌, List, ◌++◌, ◌∙◌, ap, subst, sym}
use Rattle.std.proofs.lemmas.Result.{on_err_weaker, on_ok_weaker}
use Rattle.law_model.specs.Common.{AppendsPart}
use Rattle.law_walk.specs.Common.{table_in}
use Rattle.law_live.specs.Common.{leg_on}
use Rattle.text_got.specs.TextSoFar.{Holds}
use Rattle.walk_live.specs.PassingRounds.{AreStates}
use Rattle.pair_live.specs.declared.answered_pair.WayNumbers.{WayNumbers}
use Rattle.pair_live.proofs.PairStandLaws.{lives-together}
use Rattle.pair_live.proofs.WayLineLaws.{members-line-on}
use Rattle.pair_live.proofs.answered_pair.AnsweredPair.tell_members.Goals as goal

pub returns-clause-told : goal.returns-clause-told
returns-clause-told g c one other j lives lines made are =
    let self = c.args.self.now in
    let way = c.args.way in
    let P : List ℕ → Type 0 = λ text. Holds g.K.ByteSink.written g.K.ByteSink.faults c.args.out.now c.add.new.out
    c.add.new.self (c.args.block.now ++ text) in
    on_ok_weaker c.add.result
    (subst P (c.lines_of_members-end.ensures.lines
    ∙ members-line-on c.member_words.result.now one other way j c.ticks.result c.numbers.result.lines c.args.states.now
    c.table.result.now.source.table c.member_words.ensures.words (c.ticks.ensures ∙ made)
    (c.table.ensures.table one other lives
    ∙ ap (table_in (leg_on one other way)) (lives-together one other self.pair lives way ∙ sym c.ticks.ensures))
    (ap (λ (n : WayNumbers). n.lines) c.numbers.ensures ∙ lines way)
    (subst (λ (n : WayNumbers). AreStates (leg_on one other way) n.lines (16 * j + 8) c.args.states.now)
    (sym c.numbers.ensures) are)))
    c.add.ensures.ok

pub returns-clause-part : goal.returns-clause-part
returns-clause-part g c one other j lives lines made are =
    let self = c.args.self.now in
    let way = c.args.way in
    let P : List ℕ → Type 0 = λ text. AppendsPart g.K.ByteSink.written g.K.ByteSink.faults c.args.out.now c.add.new.out
    (c.args.block.now ++ text) in
    on_err_weaker c.add.result
    (subst P (c.lines_of_members-end.ensures.lines
    ∙ members-line-on c.member_words.result.now one other way j c.ticks.result c.numbers.result.lines c.args.states.now
    c.table.result.now.source.table c.member_words.ensures.words (c.ticks.ensures ∙ made)
    (c.table.ensures.table one other lives
    ∙ ap (table_in (leg_on one other way)) (lives-together one other self.pair lives way ∙ sym c.ticks.ensures))
    (ap (λ (n : WayNumbers). n.lines) c.numbers.ensures ∙ lines way)
    (subst (λ (n : WayNumbers). AreStates (leg_on one other way) n.lines (16 * j + 8) c.args.states.now)
    (sym c.numbers.ensures) are)))
    c.add.ensures.err
