-- A frame more, or a cause more.
use Rattle.std.proofs.Common.{◌≡◌, [], ◌∷◌, ◌++◌, sym, ◌∙◌, ap, subst, length}
use Rattle.law_model.proofs.ListLaws.{length-more}
use Rattle.text_report.specs.ReportLines.{got_texts}
use Rattle.text_got.specs.TextSoFar.{HasText}
use Rattle.gfp_model.specs.fcs_model.Fcs.{delivery, dropping}
use Rattle.gfp_noise.specs.gfp_fcs.Delineator.{fcs_outcomes, outcomes_told}
use Rattle.gfp_noise.specs.declared.gfp_fcs.fcs_delineator.FcsStep.TheVariants.{Frame}
use Rattle.gfp_noise.specs.noise_link.NoiseReportText.{delivered, causes}
use Rattle.gfp_noise.proofs.FcsOutcomeLaws.{delivered-frame, causes-frame, delivered-drop, causes-drop}
use Rattle.gfp_noise.proofs.noise_link.noise_reception.receive.Goals as goal

pub returns-in-Frame-clause-received : goal.returns-in-Frame-clause-received
returns-in-Frame-clause-received g c start octets r =
    let all = octets ++ c.args.o ∷ [] in
    let told : fcs_outcomes all ≡ fcs_outcomes octets ++ delivery c.frame.result.now ∷ [] =
    c.in-Frame.ensures.outcome octets r.stands
    ∙ ap (λ f. fcs_outcomes octets ++ outcomes_told f Frame) c.frame.ensures in
    let came = delivered-frame (fcs_outcomes octets) (fcs_outcomes all) c.frame.result.now told in
    let lost = causes-frame (fcs_outcomes octets) (fcs_outcomes all) c.frame.result.now told in
    record {
      stands = c.in-Frame.ensures.stands octets r.stands;
      text = subst (λ frames. HasText g.K.ByteSink.written g.K.ByteSink.faults c.frame-in-Frame.new.self start
          (got_texts frames)) (sym came) (c.frame-in-Frame.ensures start (delivered (fcs_outcomes octets)) r.text);
      got = length-more (delivered (fcs_outcomes octets)) (delivered (fcs_outcomes all)) c.frame.result.now
          c.args.reception.now.got came r.got;
      dropped = r.dropped ∙ ap length (sym lost);
    }

pub returns-in-Dropped-clause-received : goal.returns-in-Dropped-clause-received
returns-in-Dropped-clause-received g c start octets r =
    let all = octets ++ c.args.o ∷ [] in
    let told : fcs_outcomes all ≡ fcs_outcomes octets ++ dropping c.in-Dropped.field-0 ∷ [] =
    c.in-Dropped.ensures.outcome octets r.stands in
    let came = delivered-drop (fcs_outcomes octets) (fcs_outcomes all) c.in-Dropped.field-0 told in
    let lost = causes-drop (fcs_outcomes octets) (fcs_outcomes all) c.in-Dropped.field-0 told in
    record {
      stands = c.in-Dropped.ensures.stands octets r.stands;
      text = subst (λ frames. HasText g.K.ByteSink.written g.K.ByteSink.faults c.args.reception.now.lines start
          (got_texts frames)) (sym came) r.text;
      got = r.got ∙ ap length (sym came);
      dropped = length-more (causes (fcs_outcomes octets)) (causes (fcs_outcomes all)) c.in-Dropped.field-0
          c.args.reception.now.dropped lost r.dropped;
    }
