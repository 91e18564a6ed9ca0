-- The lines are written, or a part of them up to a write that failed.
use Rattle.std.proofs.Common.{rules, ℕ, List, [], map, sym, ◌∙◌, subst, OnOk, OnErr}
use Rattle.std.specs.List.{flat_map, range_with_len}
use Rattle.law_model.specs.Common.{leg_of, Start, Appends, AppendsPart, scenario_of}
use Rattle.text_got.specs.TextSoFar.{HasText, name_of, start_at}
use Rattle.law_walk.specs.Common.{session_of}
use Rattle.fate_engine.specs.Common.{row_cause, ended_of, spoiled_text, fates_text}
use Rattle.fate_engine.specs.declared.fate_law.SpoiledRun.{SpoiledRun}
use Rattle.fate_walks.proofs.walk_fates.fates_report.write_fates.Goals as goal

pub returns : goal.returns
returns g c =
    let script = c.args.walk.now.script in
    let s = c.args.walk.now.counts in
    let start : Start = start_at g.K.ByteSink.written g.K.ByteSink.faults c.args.out.now (name_of c.new-got.result) in
    let runs =
    c.runs.ensures (map (row_cause (scenario_of script) (session_of (leg_of script))) (range_with_len 0 s.rows))
    c.requires.rows.runs in
    let P : List SpoiledRun → Type 0 =
    λ runs. HasText g.K.ByteSink.written g.K.ByteSink.faults c.write_runs.new.got start
    (flat_map spoiled_text runs) in
    let one = subst P runs (c.write_runs.ensures start [] c.new-got.ensures.fresh) in
    let two = c.write_segments.ensures start _ one in
    let three = c.write_frames-ended.ensures.text start _ two in
    let has = c.write_end.ensures (ended_of (leg_of script) s) c.write_frames-ended.ensures.counted start _ three in
    let text = fates_text (leg_of script) s in
    let N : ℕ → Type 0 = λ n. HasText g.K.ByteSink.written g.K.ByteSink.faults c.write_end.new.got
    (start_at g.K.ByteSink.written g.K.ByteSink.faults c.args.out.now n) text in
    let own = subst N (sym has.0) has in
    let named = c.finish-back.ensures.name ∙ has.0 ∙ c.new-got.ensures.name in
    let ok : OnOk c.finish-back.result.1
    (Appends g.K.ByteSink.written g.K.ByteSink.faults c.args.out.now c.take_back.new.out text) =
    subst (λ now. OnOk c.finish-back.result.1
    (Appends g.K.ByteSink.written g.K.ByteSink.faults c.args.out.now now text)) (sym c.take_back.ensures)
    (c.finish-back.ensures.ok c.args.out.now text own) in
    let err : OnErr c.finish-back.result.1
    (AppendsPart g.K.ByteSink.written g.K.ByteSink.faults c.args.out.now c.take_back.new.out text) =
    subst (λ now. OnErr c.finish-back.result.1
    (AppendsPart g.K.ByteSink.written g.K.ByteSink.faults c.args.out.now now text)) (sym c.take_back.ensures)
    (c.finish-back.ensures.err c.args.out.now text own) in
    record { ok = search (rules, ok, named); err = search (rules, err, named) }
