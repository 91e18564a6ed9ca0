-- The lines of members, by the table that the step left.
use Rattle.std.proofs.Common.{ℕ, List, ◌++◌, ◌∙◌, ap, subst, sym}
use Rattle.std.proofs.lemmas.Result.{on_err_weaker, on_ok_weaker}
use Rattle.law_model.specs.Common.{AppendsPart}
use Rattle.law_walk.specs.Common.{table_in}
use Rattle.text_got.specs.TextSoFar.{Holds}
use Rattle.walk_engine.specs.walk_core.WayParts.{Parts}
use Rattle.walk_live.proofs.ToldStepLaws.{members-line}
use Rattle.walk_live.proofs.answered_walk.AnsweredWalk.tell_members.Goals as goal

pub returns-clause-told : goal.returns-clause-told
returns-clause-told g c leg j stands lines made are =
    let self = c.args.self.now in
    let P : List ℕ → Type 0 = λ text. Holds g.K.ByteSink.written g.K.ByteSink.faults c.args.out.now c.add.new.out
    c.add.new.self (c.args.block.now ++ text) in
    on_ok_weaker c.add.result
    (subst P (c.lines_of_members-end.ensures.lines
    ∙ members-line leg j c.ticks.result self.lines c.args.states.now c.table.result.now.source.table
    (c.ticks.ensures ∙ made) ((rw c.way.ensures.way at c.table.ensures.table leg _ stands.stands)
    ∙ ap (table_in leg) (sym c.ticks.ensures)) lines are))
    c.add.ensures.ok

pub returns-clause-part : goal.returns-clause-part
returns-clause-part g c leg j stands lines made are =
    let self = c.args.self.now in
    let P : List ℕ → Type 0 = λ text. AppendsPart g.K.ByteSink.written g.K.ByteSink.faults c.args.out.now c.add.new.out
    (c.args.block.now ++ text) in
    on_err_weaker c.add.result
    (subst P (c.lines_of_members-end.ensures.lines
    ∙ members-line leg j c.ticks.result self.lines c.args.states.now c.table.result.now.source.table
    (c.ticks.ensures ∙ made) ((c.table.ensures.table leg _ (c.way.ensures.stands leg stands)
    ∙ ap (λ (p : Parts). table_in leg p.source.core.ticks) c.way.ensures.way)
    ∙ ap (table_in leg) (sym c.ticks.ensures)) lines are))
    c.add.ensures.err
