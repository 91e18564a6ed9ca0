-- The lines are written, or a part of them up to a write that failed.
use Rattle.std.proofs.Common.{rules, [], refl, sym, ◌∙◌}
use Rattle.law_model.specs.Common.{Start}
use Rattle.text_got.specs.TextSoFar.{name_of, start_at}
use Rattle.text_scripts.specs.script_text.ScriptText.{script_text}
use Rattle.text_scripts.proofs.script_text.write_script_text.write_script.Goals as goal

pub returns-clause-ok : goal.returns-clause-ok
returns-clause-ok g c =
    let start : Start = start_at g.K.ByteSink.written g.K.ByteSink.faults c.args.out.now (name_of c.new.result) in
    let has = c.add_script.ensures start [] c.new.ensures.fresh in
    let end = c.finish-back.ensures.ok c.args.out.now (script_text c.args.script.now) (refl, has.1) in
    let back = rw (sym c.take_back.ensures) at end in
    let name = c.finish-back.ensures.name ∙ has.0 ∙ c.new.ensures.name in
    search (rules, back, name)

pub returns-clause-err : goal.returns-clause-err
returns-clause-err g c =
    let start : Start = start_at g.K.ByteSink.written g.K.ByteSink.faults c.args.out.now (name_of c.new.result) in
    let has = c.add_script.ensures start [] c.new.ensures.fresh in
    let end = c.finish-back.ensures.err c.args.out.now (script_text c.args.script.now) (refl, has.1) in
    let back = rw (sym c.take_back.ensures) at end in
    let name = c.finish-back.ensures.name ∙ has.0 ∙ c.new.ensures.name in
    search (rules, back, name)
