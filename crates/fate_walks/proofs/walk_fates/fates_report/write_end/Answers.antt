-- The numbers of the last line are those of the items.
use Rattle.std.proofs.Common.{◌++◌, ◌∙◌, ap, subst}
use Rattle.law_model.specs.Common.{leg_of, scenario_of, stream_before}
use Rattle.law_model.specs.declared.session_totals.Totals.{Totals}
use Rattle.text_got.specs.TextSoFar.{HasText}
use Rattle.law_walk.specs.Common.{session_of, session_rows}
use Rattle.fate_engine.specs.Common.{last_text}
use Rattle.fate_engine.specs.declared.fate_text.fate_lines.Tally.{Tally}
use Rattle.fate_walks.proofs.FatesAndSeenRowsLaws.{starts-are, end-text}
use Rattle.fate_walks.proofs.walk_fates.fates_report.write_end.Goals as goal

pub returns : goal.returns
returns g c = λ all are start before has.
    let script = c.args.walk.now.script in
    let s = c.args.walk.now.counts in
    let ended = c.args.ended in
    let tally : Tally = record {
      frames = ended.frames;
      got = ended.totals.got;
      lost = ended.totals.lost;
      waits = ended.totals.waits;
      refused = ended.refused;
    } in
    let is = c.starts_true-starts.result in
    let starts = starts-are (leg_of script) s c.args.seen.now c.requires is
    (c.starts_true-starts.ensures (stream_before (scenario_of script) (session_of (leg_of script)) s.ticks)
    (session_rows (leg_of script) s.rows) c.requires.places c.requires.rows.segments) in
    subst (HasText g.K.ByteSink.written g.K.ByteSink.faults c.line.new.self start)
    (ap (λ l. before ++ l)
    (c.fates_line-end.ensures.line
    ∙ ap (λ (t : Totals). last_text t.ticks t.taken tally is) c.totals-totals.ensures
    ∙ ap (λ b. last_text s.ticks s.rows tally b) starts
    ∙ end-text s.ticks s.rows all ended _ are))
    (c.line.ensures start before has)
