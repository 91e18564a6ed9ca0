-- The line stands after those that wait, and all of them go out or wait.
use Rattle.std.proofs.Common.{rules, ◌-◌, ℕ, List, subst}
use Rattle.std.proofs.lemmas.Result.{on_ok_weaker, on_err_weaker}
use Rattle.law_model.specs.Common.{AppendsPart}
use Rattle.text_got.proofs.WaitingTextInBlockLaws.{Holds-waits, Holds-all, front_added}
use Rattle.text_got.proofs.text_block.TextBlock.add_got.Goals as goal

pub returns-then-end-lt-MUCH-clause-ok : goal.returns-then-end-lt-MUCH-clause-ok
returns-then-end-lt-MUCH-clause-ok g c =
    Holds-waits _ _ c.args.out.now _ _
    (front_added c.self.inside.len c.got_line.result (84741 - c.self.inside.len) c.self.inside.octets c.got_line.new.out
    c.args.self.now _ (search rules) (search rules) (search rules) c.got_line.ensures.line)

pub returns-clause-ok : goal.returns-clause-ok
returns-clause-ok g c =
    on_ok_weaker c.put_all.result
    (Holds-all _ _ c.args.out.now c.put_all.new.sink _ _
    (front_added c.self.inside.len c.got_line.result (84741 - c.self.inside.len) c.self.inside.octets c.got_line.new.out
    c.args.self.now _ (search rules) (search rules) (search rules) c.got_line.ensures.line))
    c.put_all.ensures.ok

pub returns-clause-err : goal.returns-clause-err
returns-clause-err g c =
    let P : List ℕ → Type 0 = λ text. AppendsPart g.K.ByteSink.written g.K.ByteSink.faults c.args.out.now
    c.put_all.new.sink text in
    on_err_weaker c.put_all.result
    (subst P
    (front_added c.self.inside.len c.got_line.result (84741 - c.self.inside.len) c.self.inside.octets c.got_line.new.out
    c.args.self.now _ (search rules) (search rules) (search rules) c.got_line.ensures.line))
    c.put_all.ensures.err
