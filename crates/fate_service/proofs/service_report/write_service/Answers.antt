-- The lines are written, or a part of them up to a write that failed.
use Rattle.std.proofs.Common.{rules, ◌≡◌, ℕ, List, [], All, map, sym, ◌∙◌, ap, ap₂, subst, OnOk, OnErr, arith}
use Rattle.std.specs.List.{flat_map, range_with_len}
use Rattle.law_model.specs.Common.{Start, Appends, AppendsPart, greatest, leg_of, scenario_by, width, most_ticks}
use Rattle.law_model.specs.declared.script_types.Script.{Script}
use Rattle.law_model.specs.declared.session_totals.Totals.{Totals}
use Rattle.text_got.specs.TextSoFar.{HasText, name_of, start_at}
use Rattle.law_walk.specs.Common.{session_of}
use Rattle.fate_engine.specs.Common.{row_cause, ended_of}
use Rattle.fate_walks.proofs.FatesAndSeenRowsLaws.{within, reach}
use Rattle.fate_service.specs.Delays.{delays_of}
use Rattle.fate_service.specs.FrameColumns.{carried_of}
use Rattle.fate_service.specs.MemberRuns.{runs_of}
use Rattle.fate_service.specs.Stretches.{Known, stretch_of, spans_of, told_on}
use Rattle.fate_service.specs.ServiceText.{members_text, outages_text, stretches_text, delays_text, last_text}
use Rattle.fate_service.specs.ServiceText.{known_of, told_of, ends_of, service_text}
use Rattle.fate_service.proofs.LandedFrameTallyLaws.{OfferedEarly, offered-soon, carried-count}
use Rattle.fate_service.proofs.ServiceTextLaws.{five-texts}
use Rattle.fate_service.proofs.service_report.write_service.Goals as goal

pub told_ticks-told-requires : goal.told_ticks-told-requires
told_ticks-told-requires g c = record {
  few =
      let leg = leg_of c.args.walk.now.script in
      let ticks = ap (λ (t : Totals). t.ticks) c.totals-totals.ensures in
      let bounds = within leg c.args.walk.now.counts c.args.seen.now c.requires.seen in
      omega (arith, ticks, bounds.1, c.requires.seen.sound.network.ticks);
  early = subst (All (OfferedEarly most_ticks)) (sym (c.deref.ensures.value ∙ c.requires.survey.landed.offered))
      (offered-soon (leg_of c.args.walk.now.script) c.args.walk.now.counts c.requires.seen.sound);
}

pub write_members-requires : goal.write_members-requires
write_members-requires g c =
    let low = reach (leg_of c.args.walk.now.script) c.args.walk.now.counts c.args.seen.now c.requires.seen in
    omega (arith, ap (λ (t : Totals). t.taken) c.totals-totals.ensures, low)

pub write_delays-requires : goal.write_delays-requires
write_delays-requires g c =
    let few = carried-count (leg_of c.args.walk.now.script) c.args.walk.now.counts c.args.survey.now.landed
    c.requires.seen.sound c.requires.survey.landed in
    omega (arith, few)

pub returns : goal.returns
returns g c =
    let script = c.args.walk.now.script in
    let leg = leg_of script in
    let s = c.args.walk.now.counts in
    let survey = c.args.survey.now in
    let interval = c.args.interval in
    let known : Known = known_of leg s in
    let told = c.told_ticks-told.result in
    let start : Start = start_at g.K.ByteSink.written g.K.ByteSink.faults c.args.out.now (name_of c.new-got.result) in
    let f : ℕ → ℕ = width (scenario_by leg) (session_of leg) in
    let members : ℕ → ℕ → List ℕ = λ (size rows : ℕ). flat_map (members_text size) (runs_of (map f (range_with_len 0 rows))) in
    let size = ap (λ (own : Script). own.config.size) c.script.ensures.script in
    let path : c.greatest_delay-path.result ≡ greatest leg.config.delays =
    c.greatest_delay-path.ensures ∙ ap (λ (own : Script). greatest own.config.delays) c.script.ensures.script in
    let taken = ap (λ (t : Totals). t.taken) c.totals-totals.ensures in
    let ticks = ap (λ (t : Totals). t.ticks) c.totals-totals.ensures in
    let is : told ≡ told_of leg s = c.told_ticks-told.ensures.told
    ∙ ap₂ told_on ticks (c.deref.ensures.value ∙ c.requires.survey.landed.offered) in
    let one = c.write_members.ensures (scenario_by leg) (session_of leg) c.requires.seen.rows.packets.are start []
    c.new-got.ensures.fresh in
    let two = c.write_outages.ensures start _ one in
    let three = c.write_stretches.ensures start _ two in
    let four = c.write_delays.ensures start _ three in
    let five = c.write_end.ensures start _ four in
    let text = service_text leg s interval in
    let has = subst (HasText g.K.ByteSink.written g.K.ByteSink.faults c.write_end.new.got start)
    (five-texts (ap₂ members size taken)
    (ap (outages_text (row_cause (scenario_by leg) (session_of leg)) (carried_of (ended_of leg s)) s.rows)
    c.requires.survey.outages)
    (ap (λ n. stretches_text known (spans_of interval n)) is)
    (ap₂ (λ l p. delays_text (delays_of l) p) c.requires.survey.landed.carried path)
    (ap (λ n. last_text n (stretch_of known 0 n) (ends_of leg s)) is)) five in
    let N : ℕ → Type 0 = λ n. HasText g.K.ByteSink.written g.K.ByteSink.faults c.write_end.new.got
    (start_at g.K.ByteSink.written g.K.ByteSink.faults c.args.out.now n) text in
    let own = subst N (sym has.0) has in
    let named = c.finish-back.ensures.name ∙ has.0 ∙ c.new-got.ensures.name in
    let ok : OnOk c.finish-back.result.1
    (Appends g.K.ByteSink.written g.K.ByteSink.faults c.args.out.now c.take_back.new.out text) =
    subst (λ now. OnOk c.finish-back.result.1
    (Appends g.K.ByteSink.written g.K.ByteSink.faults c.args.out.now now text)) (sym c.take_back.ensures)
    (c.finish-back.ensures.ok c.args.out.now text own) in
    let err : OnErr c.finish-back.result.1
    (AppendsPart g.K.ByteSink.written g.K.ByteSink.faults c.args.out.now c.take_back.new.out text) =
    subst (λ now. OnErr c.finish-back.result.1
    (AppendsPart g.K.ByteSink.written g.K.ByteSink.faults c.args.out.now now text)) (sym c.take_back.ensures)
    (c.finish-back.ensures.err c.args.out.now text own) in
    record { ok = search (rules, ok, named); err = search (rules, err, named) }
