-- The columns are those of the walk.
use Rattle.std.proofs.Common.{◌≡◌, ◌++◌, length, vec_len, ◌∙◌, ap, ap₂, subst, arith}
use Rattle.text_got.specs.TextSoFar.{HasText}
use Rattle.law_model.specs.Common.{leg_of, scenario_by, stream_before}
use Rattle.law_model.specs.declared.session_totals.Totals.{Totals}
use Rattle.law_walk.specs.Common.{session_of, session_rows}
use Rattle.fate_walks.proofs.FatesAndSeenRowsLaws.{starts-are}
use Rattle.fate_service.specs.ServiceText.{ends_of, last_text}
use Rattle.fate_service.proofs.ServiceTextLaws.{same-ends}
use Rattle.fate_service.proofs.service_report.write_end.Goals as goal

pub returns : goal.returns
returns g c = λ start before has.
    let leg = leg_of c.args.walk.now.script in
    let s = c.args.walk.now.counts in
    let ends = ends_of leg s in
    let survey = c.args.survey.now in
    let starts = starts-are leg s c.args.seen.now c.requires.seen c.starts_true.result
    (c.starts_true.ensures (stream_before (scenario_by leg) (session_of leg) s.ticks) (session_rows leg s.rows)
    c.requires.seen.places c.requires.seen.rows.segments) in
    let count : vec_len survey.outages ≡ length survey.outages.items =
    (let ok = survey.outages.ok.0 in omega (arith, ok)) in
    let columns = same-ends c.len.result ends.outages survey.landed.waits ends.waits c.totals-totals.result.ticks s.ticks
    c.totals-totals.result.taken s.rows c.starts_true.result ends.starts
    (c.len.ensures ∙ count ∙ ap length c.requires.survey.outages) c.requires.survey.landed.waits
    (ap (λ (t : Totals). t.ticks) c.totals-totals.ensures) (ap (λ (t : Totals). t.taken) c.totals-totals.ensures) starts in
    subst (HasText g.K.ByteSink.written g.K.ByteSink.faults c.line.new.self start)
    (ap (λ l. before ++ l) (c.service_line-end.ensures.line
    ∙ ap₂ (λ stretch ends. last_text c.args.told stretch ends) c.count_stretch-counts.ensures columns))
    (c.line.ensures start before has)
