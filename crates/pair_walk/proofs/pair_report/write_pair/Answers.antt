-- All is written, or a part up to the first write that fails.
use Rattle.std.proofs.Common.{rules, refl, sym, ◌∙◌, subst, inl, inr, false, not, OnOk, OnErr}
use Rattle.std.proofs.lemmas.Result.{on_ok_weaker, on_err_weaker}
use Rattle.law_model.specs.Common.{Appends, AppendsPart}
use Rattle.text_got.specs.TextSoFar.{AppendsSome, GivesUp, has_failed}
use Rattle.law_walk.specs.Common.{report_of}
use Rattle.command_parts.specs.Common.{lent, WritesAll, WritesPart, writes_both}
use Rattle.law_pair.specs.Common.{counts_on}
use Rattle.law_pair.specs.declared.pair_events.Way.TheVariants.{There, Back}
use Rattle.pair_engine.specs.PairAfterEvent.{leg_on}
use Rattle.text_pairs.specs.ReportsOfWays.{way_text}
use Rattle.pair_walk.proofs.PairReportRowsLaws.{appends-all, begun-few, ended-there, ended-back, same-name, way-lines}
use Rattle.pair_walk.proofs.PairReportRowsLaws.{way-given_up, on-ok, at-ok, at-err, stops-both}
use Rattle.pair_walk.proofs.pair_report.write_pair.Goals as goal

pub returns-then-write_rounds-clause-err : goal.returns-then-write_rounds-clause-err
returns-then-write_rounds-clause-err g c =
    let s0 = c.args.pair.now in
    let s1 = c.write_rounds.new.pair in
    let made = c.write_rounds.ensures in
    let failed = has_failed c.write_rounds.new.there in
    let text = way_text s0.there s0.back in
    let told = way_text s0.back s0.there in
    let few = made.few (begun-few s0 c.requires.begun) in
    let there = subst (λ now. GivesUp failed g.K.ByteSink.written g.K.ByteSink.faults c.args.out.now now text)
    (sym c.take_back.ensures)
    (way-given_up g.K.ByteSink.written g.K.ByteSink.faults c.args.out.now c.new-there.result c.write_rounds.new.there
    s0 s1 There c.requires.begun made.scripts c.new-there.ensures.fresh made.gives_there failed
    c.abandon-lent_out.result.now few refl c.abandon-lent_out.ensures.gives_up) in
    let back = subst (λ now. GivesUp (not failed) g.E.ByteSink.written g.E.ByteSink.faults c.args.notes.now now told)
    (sym c.take_back-then-write_rounds.ensures)
    (way-given_up g.E.ByteSink.written g.E.ByteSink.faults c.args.notes.now c.new-back.result c.write_rounds.new.back
    s0 s1 Back c.requires.begun made.scripts c.new-back.ensures.fresh made.gives_back (not failed)
    c.abandon-lent_notes.result.now few c.if-write_rounds.ensures.failed c.abandon-lent_notes.ensures.gives_up) in
    let out = lent g.K.ByteSink.written g.K.ByteSink.faults c.args.out.now c.take_back.new.out in
    let notes = lent g.E.ByteSink.written g.E.ByteSink.faults c.args.notes.now c.take_back-then-write_rounds.new.out in
    let k : WritesPart out notes (writes_both text told) = stops-both out notes failed text told there back in
    let named_out = c.abandon-lent_out.ensures.name
    ∙ same-name g.K.ByteSink.written g.K.ByteSink.faults c.args.out.now c.new-there.result c.write_rounds.new.there s0
    s1 There c.requires.begun made.scripts c.new-there.ensures.fresh made.gives_there ∙ c.new-there.ensures.name in
    let named_notes = c.abandon-lent_notes.ensures.name
    ∙ same-name g.E.ByteSink.written g.E.ByteSink.faults c.args.notes.now c.new-back.result c.write_rounds.new.back s0
    s1 Back c.requires.begun made.scripts c.new-back.ensures.fresh made.gives_back ∙ c.new-back.ensures.name in
    search (rules, k, named_out, named_notes)

-- ---- all of both is written, or a part of the way back
pub returns-in-Ok : goal.returns-in-Ok
returns-in-Ok g c =
    let s0 = c.args.pair.now in
    let s1 = c.write_rounds.new.pair in
    let made = c.if-write_rounds.ensures in
    let text = way_text s0.there s0.back in
    let told = way_text s0.back s0.there in
    let last = c.end_way-lent_notes.result.1 in
    let drained = made.drained refl in
    let there_has = way-lines g.K.ByteSink.written g.K.ByteSink.faults c.args.out.now c.new-there.result
    c.write_rounds.new.there s0 s1 There c.requires.begun made.scripts c.new-there.ensures.fresh made.gives_there in
    let back_has = way-lines g.E.ByteSink.written g.E.ByteSink.faults c.args.notes.now c.new-back.result
    c.write_rounds.new.back s0 s1 Back c.requires.begun made.scripts c.new-back.ensures.fresh made.gives_back in
    let there : Appends g.K.ByteSink.written g.K.ByteSink.faults c.args.out.now c.take_back-2.new.out text =
    subst (Appends g.K.ByteSink.written g.K.ByteSink.faults c.args.out.now c.take_back-2.new.out)
    (ended-there s0 s1 c.requires.begun made.fits drained)
    (subst (λ now. Appends g.K.ByteSink.written g.K.ByteSink.faults c.args.out.now now
    (report_of (leg_on s1 There) (counts_on s1.counts There))) (sym c.take_back-2.ensures)
    (at-ok c.end_way-lent_out.result.1 tt c.in-Ok.is (c.end_way-lent_out.ensures.ok c.args.out.now there_has))) in
    let some = appends-all g.K.ByteSink.written g.K.ByteSink.faults c.args.out.now c.take_back-2.new.out text there in
    let back_all = subst (λ text. OnOk last (Appends g.E.ByteSink.written g.E.ByteSink.faults c.args.notes.now
    c.take_back-in-Ok.new.out text)) (ended-back s0 s1 c.requires.begun made.fits drained)
    (subst (λ now. OnOk last (Appends g.E.ByteSink.written g.E.ByteSink.faults c.args.notes.now now
    (report_of (leg_on s1 Back) (counts_on s1.counts Back)))) (sym c.take_back-in-Ok.ensures)
    (c.end_way-lent_notes.ensures.ok c.args.notes.now back_has)) in
    let back_part = subst (λ text. OnErr last (AppendsPart g.E.ByteSink.written g.E.ByteSink.faults c.args.notes.now
    c.take_back-in-Ok.new.out text)) (ended-back s0 s1 c.requires.begun made.fits drained)
    (subst (λ now. OnErr last (AppendsPart g.E.ByteSink.written g.E.ByteSink.faults c.args.notes.now now
    (report_of (leg_on s1 Back) (counts_on s1.counts Back)))) (sym c.take_back-in-Ok.ensures)
    (c.end_way-lent_notes.ensures.err c.args.notes.now back_has)) in
    let ok : OnOk last (WritesAll
    (lent g.K.ByteSink.written g.K.ByteSink.faults c.args.out.now c.take_back-2.new.out)
    (lent g.E.ByteSink.written g.E.ByteSink.faults c.args.notes.now c.take_back-in-Ok.new.out)
    (writes_both text told)) = on_ok_weaker last (λ all. (there, all)) back_all in
    let err : OnErr last (WritesPart
    (lent g.K.ByteSink.written g.K.ByteSink.faults c.args.out.now c.take_back-2.new.out)
    (lent g.E.ByteSink.written g.E.ByteSink.faults c.args.notes.now c.take_back-in-Ok.new.out)
    (writes_both text told)) = on_err_weaker last (λ part. inr (some, part)) back_part in
    let named_out = c.end_way-lent_out.ensures.name c.args.out.now there_has
    ∙ same-name g.K.ByteSink.written g.K.ByteSink.faults c.args.out.now c.new-there.result c.write_rounds.new.there s0
    s1 There c.requires.begun made.scripts c.new-there.ensures.fresh made.gives_there ∙ c.new-there.ensures.name in
    let named_notes = c.end_way-lent_notes.ensures.name c.args.notes.now back_has
    ∙ same-name g.E.ByteSink.written g.E.ByteSink.faults c.args.notes.now c.new-back.result c.write_rounds.new.back s0
    s1 Back c.requires.begun made.scripts c.new-back.ensures.fresh made.gives_back ∙ c.new-back.ensures.name in
    record {
      pair = on-ok last drained;
      ok = search (rules, ok, named_out, named_notes);
      err = search (rules, err, named_out, named_notes);
    }

-- ---- a part of the way there, and what was put of the way back
pub returns-in-Err-clause-err : goal.returns-in-Err-clause-err
returns-in-Err-clause-err g c =
    let s0 = c.args.pair.now in
    let s1 = c.write_rounds.new.pair in
    let made = c.if-write_rounds.ensures in
    let text = way_text s0.there s0.back in
    let told = way_text s0.back s0.there in
    let few = made.few (begun-few s0 c.requires.begun) in
    let there_has = way-lines g.K.ByteSink.written g.K.ByteSink.faults c.args.out.now c.new-there.result
    c.write_rounds.new.there s0 s1 There c.requires.begun made.scripts c.new-there.ensures.fresh made.gives_there in
    let there : AppendsPart g.K.ByteSink.written g.K.ByteSink.faults c.args.out.now c.take_back-2.new.out text =
    subst (AppendsPart g.K.ByteSink.written g.K.ByteSink.faults c.args.out.now c.take_back-2.new.out)
    (ended-there s0 s1 c.requires.begun made.fits (made.drained refl))
    (subst (λ now. AppendsPart g.K.ByteSink.written g.K.ByteSink.faults c.args.out.now now
    (report_of (leg_on s1 There) (counts_on s1.counts There))) (sym c.take_back-2.ensures)
    (at-err c.end_way-lent_out.result.1 c.in-Err.field-0 c.in-Err.is
    (c.end_way-lent_out.ensures.err c.args.out.now there_has))) in
    let back : AppendsSome g.E.ByteSink.written g.E.ByteSink.faults c.args.notes.now c.take_back-in-Err.new.out told =
    subst (λ now. AppendsSome g.E.ByteSink.written g.E.ByteSink.faults c.args.notes.now now told)
    (sym c.take_back-in-Err.ensures)
    (way-given_up g.E.ByteSink.written g.E.ByteSink.faults c.args.notes.now c.new-back.result c.write_rounds.new.back
    s0 s1 Back c.requires.begun made.scripts c.new-back.ensures.fresh made.gives_back false
    c.abandon-lent_notes-in-Err.result.now few made.failed.1 c.abandon-lent_notes-in-Err.ensures.gives_up) in
    let k : WritesPart
    (lent g.K.ByteSink.written g.K.ByteSink.faults c.args.out.now c.take_back-2.new.out)
    (lent g.E.ByteSink.written g.E.ByteSink.faults c.args.notes.now c.take_back-in-Err.new.out)
    (writes_both text told) = inl (there, back) in
    let named_out = c.end_way-lent_out.ensures.name c.args.out.now there_has
    ∙ same-name g.K.ByteSink.written g.K.ByteSink.faults c.args.out.now c.new-there.result c.write_rounds.new.there s0
    s1 There c.requires.begun made.scripts c.new-there.ensures.fresh made.gives_there ∙ c.new-there.ensures.name in
    let named_notes = c.abandon-lent_notes-in-Err.ensures.name
    ∙ same-name g.E.ByteSink.written g.E.ByteSink.faults c.args.notes.now c.new-back.result c.write_rounds.new.back s0
    s1 Back c.requires.begun made.scripts c.new-back.ensures.fresh made.gives_back ∙ c.new-back.ensures.name in
    search (rules, k, named_out, named_notes)
