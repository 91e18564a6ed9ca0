-- The head stands behind what was written before.
use Rattle.std.proofs.Common.{ℕ, [], ◌∙◌, sym, subst}
use Rattle.law_model.specs.Common.{Start}
use Rattle.text_got.specs.TextSoFar.{HasText, name_of, start_at}
use Rattle.text_captures.specs.capture_file.GfpInCapture.{gfp_head}
use Rattle.text_captures.proofs.capture_file.gfp_out.GfpOut.new.Goals as goal

pub returns-clause-name : goal.returns-clause-name
returns-clause-name g c =
    let start : Start = start_at g.K.ByteSink.written g.K.ByteSink.faults c.args.out.now (name_of c.new-got.result) in
    (c.line.ensures start [] c.new-got.ensures.fresh).0 ∙ c.new-got.ensures.name

pub returns-clause-fresh : goal.returns-clause-fresh
returns-clause-fresh g c =
    let start : Start = start_at g.K.ByteSink.written g.K.ByteSink.faults c.args.out.now (name_of c.new-got.result) in
    let has = c.line.ensures start [] c.new-got.ensures.fresh in
    let N : ℕ → Type 0 = λ n. HasText g.K.ByteSink.written g.K.ByteSink.faults c.line.new.self
    (start_at g.K.ByteSink.written g.K.ByteSink.faults c.args.out.now n) gfp_head in
    subst N (sym has.0) has
