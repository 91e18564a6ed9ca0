-- The line of the last step.
use Rattle.std.proofs.Common.{ℕ, List, ◌++◌, ◌∙◌, ap, subst}
use Rattle.std.proofs.lemmas.Result.{on_err_weaker, on_ok_weaker}
use Rattle.law_model.specs.Common.{AppendsPart}
use Rattle.law_pair.specs.Common.{counts_on}
use Rattle.text_got.specs.TextSoFar.{Holds}
use Rattle.pair_engine.specs.LivePairs.{walking_counts}
use Rattle.pair_live.specs.declared.answered_pair.WayNumbers.{WayNumbers}
use Rattle.pair_live.proofs.WayLineLaws.{packet-line, some-step}
use Rattle.pair_live.proofs.answered_pair.AnsweredPair.tell_packet.Goals as goal

pub returns-in-Some-clause-told : goal.returns-in-Some-clause-told
returns-in-Some-clause-told g c one other j lives lines step =
    let self = c.args.self.now in
    let way = c.args.way in
    let P : List ℕ → Type 0 = λ text. Holds g.K.ByteSink.written g.K.ByteSink.faults c.args.out.now c.tell_step.new.out
    c.tell_step.new.block (c.args.block.now ++ text) in
    on_ok_weaker c.tell_step.result
    (subst P (packet-line one other way (counts_on (walking_counts self.pair) way).ticks j c.numbers.result.lines
    c.in-Some.note c.table.result.now.source.table step (c.in-Some.ensures.step one other lives)
    (c.table.ensures.table one other lives) (ap (λ (n : WayNumbers). n.lines) c.numbers.ensures ∙ lines way)))
    c.tell_step.ensures.told

pub returns-in-Some-clause-part : goal.returns-in-Some-clause-part
returns-in-Some-clause-part g c one other j lives lines step =
    let self = c.args.self.now in
    let way = c.args.way in
    let P : List ℕ → Type 0 = λ text. AppendsPart g.K.ByteSink.written g.K.ByteSink.faults c.args.out.now
    c.tell_step.new.out (c.args.block.now ++ text) in
    on_err_weaker c.tell_step.result
    (subst P (packet-line one other way (counts_on (walking_counts self.pair) way).ticks j c.numbers.result.lines
    c.in-Some.note c.table.result.now.source.table step (c.in-Some.ensures.step one other lives)
    (c.table.ensures.table one other lives) (ap (λ (n : WayNumbers). n.lines) c.numbers.ensures ∙ lines way)))
    c.tell_step.ensures.part

pub returns-in-None-clause-told : goal.returns-in-None-clause-told
returns-in-None-clause-told g c one other j lives lines step =
    absurd (some-step one other c.args.way (counts_on (walking_counts c.args.self.now.pair) c.args.way).ticks j step
    (c.in-None.ensures.step one other lives))
