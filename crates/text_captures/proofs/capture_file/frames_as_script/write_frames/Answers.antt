-- The lines are written, or a part of them up to a write that failed.
use Rattle.std.proofs.Common.{rules, [], refl, sym, ◌∙◌, subst, drop}
use Rattle.std.proofs.lemmas.List.{take_rest}
use Rattle.law_model.specs.Common.{Start}
use Rattle.text_got.specs.TextSoFar.{HasText, name_of, start_at}
use Rattle.text_captures.specs.capture_file.Reading.{frames_of}
use Rattle.text_captures.specs.capture_file.Texts.{frame_texts}
use Rattle.text_captures.proofs.capture_file.frames_as_script.write_frames.Given as given
use Rattle.text_captures.proofs.capture_file.frames_as_script.write_frames.Goals as goal
use Rattle.text_captures.proofs.capture_file.frames_as_script.write_frames.Goals.{After-finish-back}

-- all lines are written or wait
told : (g : given.Over) (c : After-finish-back g) →
    HasText g.K.ByteSink.written g.K.ByteSink.faults c.add_lines.new.got
    (start_at g.K.ByteSink.written g.K.ByteSink.faults c.args.out.now (name_of c.new-got.result))
    (frame_texts (frames_of c.args.form (drop 24 c.args.octets.now)))
told g c =
    let start : Start = start_at g.K.ByteSink.written g.K.ByteSink.faults c.args.out.now (name_of c.new-got.result) in
    subst (λ body. HasText g.K.ByteSink.written g.K.ByteSink.faults c.add_lines.new.got start
    (frame_texts (frames_of c.args.form body)))
    (take_rest c.args.octets.now 24) (c.add_lines.ensures start [] c.new-got.ensures.fresh)

pub returns-clause-ok : goal.returns-clause-ok
returns-clause-ok g c =
    let has = told g (goal.at.returns-clause-ok g c).After-finish-back in
    let end = c.finish-back.ensures.ok c.args.out.now
    (frame_texts (frames_of c.args.form (drop 24 c.args.octets.now))) (refl, has.1) in
    let back = rw (sym c.take_back.ensures) at end in
    let name = c.finish-back.ensures.name ∙ has.0 ∙ c.new-got.ensures.name in
    search (rules, back, name)

pub returns-clause-err : goal.returns-clause-err
returns-clause-err g c =
    let has = told g (goal.at.returns-clause-err g c).After-finish-back in
    let end = c.finish-back.ensures.err c.args.out.now
    (frame_texts (frames_of c.args.form (drop 24 c.args.octets.now))) (refl, has.1) in
    let back = rw (sym c.take_back.ensures) at end in
    let name = c.finish-back.ensures.name ∙ has.0 ∙ c.new-got.ensures.name in
    search (rules, back, name)
