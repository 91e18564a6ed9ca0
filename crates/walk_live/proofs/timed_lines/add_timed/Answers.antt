-- The line is told in two parts.
use Rattle.std.proofs.Common.{List, ℕ, ◌++◌, codes, refl, subst}
use Rattle.std.proofs.lemmas.Result.{on_err_weaker, on_ok_weaker}
use Rattle.hex.specs.Hex.{encode_lower}
use Rattle.law_model.specs.Common.{AppendsPart}
use Rattle.text_got.specs.TextSoFar.{Holds}
use Rattle.walk_live.specs.TimedWriting.{got_words}
use Rattle.walk_live.proofs.TimedLineWritingLaws.{got-parts, holds-more, part-longer, part-more}
use Rattle.walk_live.proofs.timed_lines.add_timed.Goals as goal

pub returns-in-Err-clause-err : goal.returns-in-Err-clause-err
returns-in-Err-clause-err g c =
    let P : List ℕ → Type 0 = λ text. AppendsPart g.K.ByteSink.written g.K.ByteSink.faults c.args.out.now c.add.new.out
    (c.args.block.now ++ text) in
    subst P (got-parts (got_words c.args.whose) c.args.ticks c.args.frame.now _ _ c.head_text-end.ensures.text refl)
    (part-longer g.K.ByteSink.written g.K.ByteSink.faults c.args.out.now c.add.new.out c.args.block.now _
    (encode_lower c.args.frame.now ++ codes "\n") c.in-Err.ensures.err)

pub returns-clause-ok : goal.returns-clause-ok
returns-clause-ok g c =
    let P : List ℕ → Type 0 = λ text. Holds g.K.ByteSink.written g.K.ByteSink.faults c.args.out.now c.add-2.new.out
    c.add-2.new.self (c.args.block.now ++ text) in
    on_ok_weaker c.add-2.result
    (λ more. subst P
    (got-parts (got_words c.args.whose) c.args.ticks c.args.frame.now _ _ c.head_text-end.ensures.text
    c.rest_text-end.ensures.text)
    (holds-more g.K.ByteSink.written g.K.ByteSink.faults c.args.out.now c.add.new.out c.add-2.new.out
    c.args.block.now c.add.new.self c.add-2.new.self _ _ c.in-Ok.ensures.ok more))
    c.add-2.ensures.ok

pub returns-clause-err : goal.returns-clause-err
returns-clause-err g c =
    let P : List ℕ → Type 0 = λ text. AppendsPart g.K.ByteSink.written g.K.ByteSink.faults c.args.out.now
    c.add-2.new.out (c.args.block.now ++ text) in
    on_err_weaker c.add-2.result
    (λ stops. subst P
    (got-parts (got_words c.args.whose) c.args.ticks c.args.frame.now _ _ c.head_text-end.ensures.text
    c.rest_text-end.ensures.text)
    (part-more g.K.ByteSink.written g.K.ByteSink.faults c.args.out.now c.add.new.out c.add-2.new.out
    c.args.block.now c.add.new.self _ _ c.in-Ok.ensures.ok stops))
    c.add-2.ensures.err
