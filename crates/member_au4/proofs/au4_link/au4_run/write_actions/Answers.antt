-- The lines of all VC-4s, and then the counts.
use Rattle.std.proofs.Common.{rules, ◌++◌, refl, sym, ◌∙◌, ap, subst}
use Rattle.law_model.specs.Common.{Start}
use Rattle.text_got.specs.TextSoFar.{HasText, name_of, start_at}
use Rattle.member_au4.specs.au4_link.LinkReportText.{vc_texts, back_of, text_of}
use Rattle.member_au4.proofs.au4_link.au4_run.write_actions.Given as given
use Rattle.member_au4.proofs.au4_link.au4_run.write_actions.Goals as goal
use Rattle.member_au4.proofs.au4_link.au4_run.write_actions.Goals.{After-finish-back}

pub carry_all-counts-requires-clause-fresh : goal.carry_all-counts-requires-clause-fresh
carry_all-counts-requires-clause-fresh g c = (
  start_at g.K.ByteSink.written g.K.ByteSink.faults c.args.out.now (name_of c.new.result),
  record { text = c.new.ensures.fresh; count = λ few. refl },
)

-- all lines are written or wait
told : (g : given.Over) (c : After-finish-back g) → HasText g.K.ByteSink.written g.K.ByteSink.faults c.line.new.self
    (start_at g.K.ByteSink.written g.K.ByteSink.faults c.args.out.now (name_of c.new.result))
    (text_of c.args.start c.args.actions.now)
told g c =
    let to : Start = start_at g.K.ByteSink.written g.K.ByteSink.faults c.args.out.now (name_of c.new.result) in
    let has = c.carry_all-counts.ensures.given to (record { text = c.new.ensures.fresh; count = λ few. refl }) in
    subst (HasText g.K.ByteSink.written g.K.ByteSink.faults c.line.new.self to)
    (ap (λ t. vc_texts (back_of c.args.start c.args.actions.now) ++ t)
    (c.end_line-end.ensures.line ∙ c.carry_all-counts.ensures.counts))
    (c.line.ensures to (vc_texts (back_of c.args.start c.args.actions.now)) has.text)

pub returns-clause-ok : goal.returns-clause-ok
returns-clause-ok g c =
    let has = told g (goal.at.returns-clause-ok g c).After-finish-back in
    let end = c.finish-back.ensures.ok c.args.out.now (text_of c.args.start c.args.actions.now) (refl, has.1) in
    let back = rw (sym c.take_back.ensures) at end in
    let name = c.finish-back.ensures.name ∙ has.0 ∙ c.new.ensures.name in
    search (rules, back, name)

pub returns-clause-err : goal.returns-clause-err
returns-clause-err g c =
    let has = told g (goal.at.returns-clause-err g c).After-finish-back in
    let end = c.finish-back.ensures.err c.args.out.now (text_of c.args.start c.args.actions.now) (refl, has.1) in
    let back = rw (sym c.take_back.ensures) at end in
    let name = c.finish-back.ensures.name ∙ has.0 ∙ c.new.ensures.name in
    search (rules, back, name)
