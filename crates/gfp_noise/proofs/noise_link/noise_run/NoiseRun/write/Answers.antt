-- The lines of all frames that are delivered, and then the counts.
use Rattle.std.proofs.Common.{rules, [], ◌≡◌, length, refl, sym, ◌∙◌, ap, subst}
use Rattle.law_model.specs.Common.{Start}
use Rattle.text_got.specs.TextSoFar.{HasText, name_of, start_at}
use Rattle.text_report.specs.ReportLines.{got_texts}
use Rattle.gfp_noise.specs.gfp_fcs.Delineator.{fcs_outcomes}
use Rattle.gfp_noise.specs.noise_link.ReceivedSoFar.{Received}
use Rattle.gfp_noise.specs.noise_link.NoiseReportText.{received, delivered, causes, noise_text}
use Rattle.gfp_noise.proofs.FcsOutcomeLaws.{none-come, text-is}
use Rattle.gfp_noise.proofs.noise_link.noise_run.NoiseRun.write.Given as given
use Rattle.gfp_noise.proofs.noise_link.noise_run.NoiseRun.write.Goals as goal
use Rattle.gfp_noise.proofs.noise_link.noise_run.NoiseRun.write.Goals.{After-as_slice, After-finish-back}

-- nothing is received yet
none : (g : given.Over) (c : After-as_slice g) → Received g.K.ByteSink.written g.K.ByteSink.faults
    (record { delineator = c.self.inside.receiver; lines = c.new.result; got = 0; dropped = 0 })
    (start_at g.K.ByteSink.written g.K.ByteSink.faults c.args.out.now (name_of c.new.result)) []
none g c = record {
  stands = c.self.invariant;
  text = subst (λ o. HasText g.K.ByteSink.written g.K.ByteSink.faults c.new.result
      (start_at g.K.ByteSink.written g.K.ByteSink.faults c.args.out.now (name_of c.new.result))
      (got_texts (delivered o)))
      (sym none-come) c.new.ensures.fresh;
  got = ap (λ o. length (delivered o)) (sym none-come);
  dropped = ap (λ o. length (causes o)) (sym none-come);
}

-- all lines are written or wait
told : (g : given.Over) (c : After-finish-back g) → Received g.K.ByteSink.written g.K.ByteSink.faults
    c.receive_all.new.reception
    (start_at g.K.ByteSink.written g.K.ByteSink.faults c.args.out.now (name_of c.new.result)) c.as_slice.result.now →
    HasText g.K.ByteSink.written g.K.ByteSink.faults c.line.new.self
    (start_at g.K.ByteSink.written g.K.ByteSink.faults c.args.out.now (name_of c.new.result))
    (noise_text c.args.noise.now)
told g c has =
    let to : Start = start_at g.K.ByteSink.written g.K.ByteSink.faults c.args.out.now (name_of c.new.result) in
    let octets : c.as_slice.result.now ≡ received c.args.noise.now =
    c.as_slice.ensures.value ∙ c.self.view_is ∙ c.requires in
    subst (HasText g.K.ByteSink.written g.K.ByteSink.faults c.line.new.self to)
    (text-is c.args.noise.now c.as_slice.result.now _ _ _ c.receive_all.new.reception.got
    c.receive_all.new.reception.dropped octets c.count.ensures c.count-2.ensures has.got has.dropped
    c.end_line-end.ensures.line)
    (c.line.ensures to (got_texts (delivered (fcs_outcomes c.as_slice.result.now))) has.text)

pub receive_all-requires-clause-stands : goal.receive_all-requires-clause-stands
receive_all-requires-clause-stands g c = (
  start_at g.K.ByteSink.written g.K.ByteSink.faults c.args.out.now (name_of c.new.result),
  none g c,
)

pub returns-clause-ok : goal.returns-clause-ok
returns-clause-ok g c =
    let at = goal.at.returns-clause-ok g c in
    let has = told g at.After-finish-back (c.receive_all.ensures _ (none g at.After-as_slice)) in
    let end = c.finish-back.ensures.ok c.args.out.now (noise_text c.args.noise.now) (refl, has.1) in
    let back = rw (sym c.take_back.ensures) at end in
    let name = c.finish-back.ensures.name ∙ has.0 ∙ c.new.ensures.name in
    search (rules, back, name)

pub returns-clause-err : goal.returns-clause-err
returns-clause-err g c =
    let at = goal.at.returns-clause-err g c in
    let has = told g at.After-finish-back (c.receive_all.ensures _ (none g at.After-as_slice)) in
    let end = c.finish-back.ensures.err c.args.out.now (noise_text c.args.noise.now) (refl, has.1) in
    let back = rw (sym c.take_back.ensures) at end in
    let name = c.finish-back.ensures.name ∙ has.0 ∙ c.new.ensures.name in
    search (rules, back, name)
