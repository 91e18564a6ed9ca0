-- The words, and then what is left of the line.
use Rattle.std.proofs.Common.{◌≡◌, ◌-◌, ◌++◌, ℕ, List, arith, drop, length, length-drop, subst, take}
use Rattle.std.proofs.lemmas.List.{take_all}
use Rattle.std.proofs.lemmas.Result.{on_err_weaker, on_ok_weaker}
use Rattle.law_model.specs.Common.{AppendsPart}
use Rattle.text_got.specs.TextSoFar.{Holds}
use Rattle.walk_live.proofs.TimedLineWritingLaws.{holds-more, part-more}
use Rattle.pair_live.proofs.way_lines.tell_behind.Goals as goal

pub returns-in-Ok-clause-told : goal.returns-in-Ok-clause-told
returns-in-Ok-clause-told g c =
    let line = c.args.line.now in
    let rest : take (length line - c.args.word) (drop c.args.word line) ≡ drop c.args.word line =
    take_all _ _ (omega (arith, length-drop c.args.word line)) in
    let P : List ℕ → Type 0 = λ text. Holds g.K.ByteSink.written g.K.ByteSink.faults c.args.out.now c.add-in-Ok.new.out
    c.add-in-Ok.new.self (c.args.block.now ++ (c.args.words.now ++ text)) in
    on_ok_weaker c.add-in-Ok.result
    (λ more. subst P rest
    (holds-more g.K.ByteSink.written g.K.ByteSink.faults c.args.out.now c.add.new.out c.add-in-Ok.new.out
    c.args.block.now c.add.new.self c.add-in-Ok.new.self _ _ c.in-Ok.ensures.ok more))
    c.add-in-Ok.ensures.ok

pub returns-in-Ok-clause-part : goal.returns-in-Ok-clause-part
returns-in-Ok-clause-part g c =
    let line = c.args.line.now in
    let rest : take (length line - c.args.word) (drop c.args.word line) ≡ drop c.args.word line =
    take_all _ _ (omega (arith, length-drop c.args.word line)) in
    let P : List ℕ → Type 0 = λ text. AppendsPart g.K.ByteSink.written g.K.ByteSink.faults c.args.out.now
    c.add-in-Ok.new.out (c.args.block.now ++ (c.args.words.now ++ text)) in
    on_err_weaker c.add-in-Ok.result
    (λ stops. subst P rest
    (part-more g.K.ByteSink.written g.K.ByteSink.faults c.args.out.now c.add.new.out c.add-in-Ok.new.out
    c.args.block.now c.add.new.self _ _ c.in-Ok.ensures.ok stops))
    c.add-in-Ok.ensures.err
