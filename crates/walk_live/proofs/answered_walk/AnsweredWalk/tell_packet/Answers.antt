-- The line of the last step.
use Rattle.std.proofs.Common.{ℕ, List, ◌++◌, ◌∙◌, ap, subst}
use Rattle.std.proofs.lemmas.Result.{on_err_weaker, on_ok_weaker}
use Rattle.law_model.specs.Common.{AppendsPart}
use Rattle.law_walk.specs.Common.{table_in}
use Rattle.text_got.specs.TextSoFar.{Holds}
use Rattle.walk_engine.specs.walk_core.LiveWalking.{walking_counts}
use Rattle.walk_engine.specs.walk_core.WayParts.{Parts}
use Rattle.walk_live.proofs.ToldStepLaws.{last-line}
use Rattle.walk_live.proofs.answered_walk.AnsweredWalk.tell_packet.Goals as goal

pub returns-clause-told : goal.returns-clause-told
returns-clause-told g c leg j stands lines step =
    let self = c.args.self.now in
    let P : List ℕ → Type 0 = λ text. Holds g.K.ByteSink.written g.K.ByteSink.faults c.args.out.now c.add.new.out
    c.add.new.self (c.args.block.now ++ text) in
    on_ok_weaker c.add.result
    (subst P (c.trace_line-end.ensures.line
    ∙ last-line leg (walking_counts self.walk).ticks j self.lines c.in-Some.note c.table.result.now.source.table step
    (c.in-Some.ensures.step leg stands)
    (rw c.way.ensures.way at c.table.ensures.table leg _ stands.stands) lines))
    c.add.ensures.ok

pub returns-clause-part : goal.returns-clause-part
returns-clause-part g c leg j stands lines step =
    let self = c.args.self.now in
    let P : List ℕ → Type 0 = λ text. AppendsPart g.K.ByteSink.written g.K.ByteSink.faults c.args.out.now c.add.new.out
    (c.args.block.now ++ text) in
    on_err_weaker c.add.result
    (subst P (c.trace_line-end.ensures.line
    ∙ last-line leg (walking_counts self.walk).ticks j self.lines c.in-Some.note c.table.result.now.source.table step
    (c.in-Some.ensures.step leg stands)
    (c.table.ensures.table leg _ (c.way.ensures.stands leg stands)
    ∙ ap (λ (p : Parts). table_in leg p.source.core.ticks) c.way.ensures.way) lines))
    c.add.ensures.err
