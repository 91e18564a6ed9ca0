-- The lines are written, or a part of them up to a write that failed.
use Rattle.std.proofs.Common.{rules, ℕ, [], ◌++◌, length, sym, ◌∙◌, ap, subst, OnOk, OnErr}
use Rattle.std.specs.List.{flat_map}
use Rattle.law_model.specs.Common.{Start, Appends, AppendsPart, leg_of}
use Rattle.text_got.specs.TextSoFar.{HasText, name_of, start_at}
use Rattle.law_walk.specs.Common.{refusals_of}
use Rattle.fate_check.specs.UsedLines.{unused_lines}
use Rattle.fate_check.specs.IdleWindows.{idle_windows}
use Rattle.fate_check.specs.EarlyFrames.{payload_row, early_frames}
use Rattle.fate_check.specs.declared.check_lines.Found.{Found}
use Rattle.fate_check.specs.CheckText.{unused_text, idle_texts, early_if_any, refused_items, last_text, check_text}
use Rattle.fate_check.proofs.CheckTextAndEarlyFrameLaws.{same-found}
use Rattle.fate_check.proofs.write_check_lines.write_check.Goals as goal

pub returns : goal.returns
returns g c =
    let leg = leg_of c.args.walk.now.script in
    let s = c.args.walk.now.counts in
    let start : Start = start_at g.K.ByteSink.written g.K.ByteSink.faults c.args.out.now (name_of c.new-got.result) in
    let one = c.write_unused-unused.ensures.text start [] c.new-got.ensures.fresh in
    let two = c.write_idle-idle.ensures.text start _ one in
    let three = c.write_early-early.ensures.text start _ two in
    let four = c.write_refused-refused.ensures.text start _ three in
    let five = c.write_end.ensures start _ four in
    let text = check_text leg s in
    let has = subst (HasText g.K.ByteSink.written g.K.ByteSink.faults c.write_end.new.got start)
    (ap (λ (found : Found). flat_map unused_text (unused_lines leg s.rows) ++ idle_texts (idle_windows leg s.rows)
    ++ early_if_any (length (early_frames leg s)) (payload_row leg s) ++ refused_items (refusals_of leg s) ++ last_text found)
    (same-found c.write_unused-unused.ensures.count c.write_idle-idle.ensures.count c.write_early-early.ensures.count
    c.write_refused-refused.ensures.count)) five in
    let N : ℕ → Type 0 = λ n. HasText g.K.ByteSink.written g.K.ByteSink.faults c.write_end.new.got
    (start_at g.K.ByteSink.written g.K.ByteSink.faults c.args.out.now n) text in
    let own = subst N (sym has.0) has in
    let named = c.finish-back.ensures.name ∙ has.0 ∙ c.new-got.ensures.name in
    let ok : OnOk c.finish-back.result.1
    (Appends g.K.ByteSink.written g.K.ByteSink.faults c.args.out.now c.take_back.new.out text) =
    subst (λ now. OnOk c.finish-back.result.1
    (Appends g.K.ByteSink.written g.K.ByteSink.faults c.args.out.now now text)) (sym c.take_back.ensures)
    (c.finish-back.ensures.ok c.args.out.now text own) in
    let err : OnErr c.finish-back.result.1
    (AppendsPart g.K.ByteSink.written g.K.ByteSink.faults c.args.out.now c.take_back.new.out text) =
    subst (λ now. OnErr c.finish-back.result.1
    (AppendsPart g.K.ByteSink.written g.K.ByteSink.faults c.args.out.now now text)) (sym c.take_back.ensures)
    (c.finish-back.ensures.err c.args.out.now text own) in
    record { ok = search (rules, ok, named); err = search (rules, err, named) }
