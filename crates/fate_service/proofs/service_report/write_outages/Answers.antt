-- An outage more; and all of them.
use Rattle.std.proofs.Common.{◌≡◌, ℕ, ◌+◌, ◌<◌, ◌≤◌, ◌++◌, List, [], All, Option, length, drop, refl, sym, ◌∙◌, ap}
use Rattle.std.proofs.Common.{subst, arith, append-nil, append_assoc}
use Rattle.std.proofs.lemmas.List.{at_drop_all, take_rest}
use Rattle.text_got.specs.TextSoFar.{HasText}
use Rattle.law_model.specs.Common.{leg_of, scenario_by}
use Rattle.law_model.specs.declared.session_totals.Totals.{Totals}
use Rattle.law_walk.specs.Common.{session_of}
use Rattle.fate_engine.specs.Common.{row_cause, ended_of}
use Rattle.fate_engine.specs.declared.fate_law.Cause.{Cause}
use Rattle.fate_service.specs.declared.landed_frames.CarriedFrame.{CarriedFrame}
use Rattle.fate_service.specs.FrameColumns.{carried_of}
use Rattle.fate_service.specs.Outages.{losses, next_first}
use Rattle.fate_service.specs.ServiceText.{outage_text, outages_text}
use Rattle.fate_service.proofs.OutageAndDarkRowLaws.{Begins, survey-begins}
use Rattle.fate_service.proofs.ServiceTextLaws.{outage-next, text-more, text-whole}
use Rattle.fate_service.proofs.service_report.write_outages.Goals as goal

pub loop-i-init : goal.loop-i-init
loop-i-init g c = (
  [],
  refl,
  λ start before has.
      subst (HasText g.K.ByteSink.written g.K.ByteSink.faults c.args.got.now start) (sym (append-nil before)) has,
)

pub write_outage-requires-clause-within : goal.write_outage-requires-clause-within
write_outage-requires-clause-within g c =
    let s = c.args.walk.now.counts in
    let items = c.args.survey.now.outages.items in
    let i = c.loop-i.i in
    let begins : All (Begins s.rows) items = subst (All (Begins s.rows)) (sym c.requires.survey.outages)
    (survey-begins (leg_of c.args.walk.now.script) s.rows) in
    let same = ap length c.deref.ensures.value in
    let test = c.loop-i-test.true in
    let low : i < length items = omega (arith, c.len-i-end.ensures, c.deref.ensures.len, same, test) in
    subst (Begins s.rows) (sym c.index.ensures) (begins i c.index.result.now low)

pub loop-i-preserved : goal.loop-i-preserved
loop-i-preserved g c =
    let leg = leg_of c.args.walk.now.script in
    let s = c.args.walk.now.counts in
    let items = c.args.survey.now.outages.items in
    let i = c.loop-i.i in
    let done = c.loop-i.invariant.0 in
    let cause : ℕ → Option Cause = row_cause (scenario_by leg) (session_of leg) in
    let carried : List CarriedFrame = carried_of (ended_of leg s) in
    let outage = c.index.result.now in
    let end = c.first_of-end.result in
    let same = ap length c.deref.ensures.value in
    let test = c.loop-i-test.true in
    let low : i < length items = omega (arith, c.len-i-end.ensures, c.deref.ensures.len, same, test) in
    let own : List ℕ = outage_text outage (losses carried outage.first end) (cause outage.first) in
    let last : end ≡ next_first s.rows (drop (i + 1) items) = c.first_of-end.ensures
    ∙ ap (next_first c.totals-rows.result.taken)
    (take_rest c.deref.result.now (i + 1) ∙ ap (drop (i + 1)) c.deref.ensures.value)
    ∙ ap (λ n. next_first n (drop (i + 1) items)) (ap (λ (t : Totals). t.taken) c.totals-rows.ensures) in (
      done ++ own,
      text-more done own (outages_text cause carried s.rows (drop (i + 1) items))
          (outages_text cause carried s.rows (drop i items)) (outages_text cause carried s.rows items)
          (outage-next cause carried s.rows items i outage end low c.index.ensures last) c.loop-i.invariant.1,
      λ start before has. subst (HasText g.K.ByteSink.written g.K.ByteSink.faults c.write_outage.new.got start)
          (append_assoc before done own)
          (c.write_outage.ensures start (before ++ done) (c.loop-i.invariant.2 start before has)),
    )

pub returns : goal.returns
unfolding outages_text
returns g c = λ start before has.
    let leg = leg_of c.args.walk.now.script in
    let s = c.args.walk.now.counts in
    let items = c.args.survey.now.outages.items in
    let i = c.loop-i.i in
    let done = c.loop-i.invariant.0 in
    let cause : ℕ → Option Cause = row_cause (scenario_by leg) (session_of leg) in
    let carried : List CarriedFrame = carried_of (ended_of leg s) in
    let high : length items ≤ i =
    (let count = c.len-i-end.ensures in let test = c.loop-i-test.false in omega (arith, count, test)) in
    subst (HasText g.K.ByteSink.written g.K.ByteSink.faults c.loop-i.got start)
    (ap (λ l. before ++ l) (sym (append-nil done)
    ∙ text-whole done (outages_text cause carried s.rows (drop i items)) [] (outages_text cause carried s.rows items)
    (at_drop_all (outages_text cause carried s.rows) items i high) c.loop-i.invariant.1))
    (c.loop-i.invariant.2 start before has)
