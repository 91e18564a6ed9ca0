-- A frame more, or none.
use Rattle.std.proofs.Common.{◌≡◌, List, [], ◌∷◌, ◌++◌, sym, ◌∙◌, ap, subst, refl, flat_map}
use Rattle.law_model.proofs.ListLaws.{length-more}
use Rattle.text_got.specs.TextSoFar.{HasText}
use Rattle.gfp_model.specs.linear_model.ChannelArea.{ChannelFrame, LinearOutcome, delivery, frame_in, linear_outcomes}
use Rattle.gfp_channels.specs.gfp_linear.Delineator.{frame_of, outcomes_told}
use Rattle.gfp_channels.specs.declared.gfp_linear.linear_delineator.LinearStep.TheVariants.{Frame}
use Rattle.gfp_channels.specs.channel_link.ChannelReportText.{got_text}
use Rattle.gfp_channels.proofs.CutSegmentReceptionLaws.{received-nothing}
use Rattle.gfp_channels.proofs.CutSegmentReceptionLaws.{frames-more, texts-more}
use Rattle.gfp_channels.proofs.channel_link.channel_reception.receive.Goals as goal

pub returns-in-Nothing-clause-received : goal.returns-in-Nothing-clause-received
returns-in-Nothing-clause-received g c start segment before r =
    received-nothing g.K.ByteSink.written g.K.ByteSink.faults c.args.reception.now c.byte.new.self start before
    (outcomes_told (frame_of c.byte.new.self) c.byte.result) segment c.args.o r
    (c.byte.ensures.stands segment.first segment.octets r.stands)
    (c.byte.ensures.outcome segment.first segment.octets r.stands)
    (subst (λ s. flat_map frame_in (outcomes_told (frame_of c.byte.new.self) s) ≡ []) (sym c.in-Nothing.is) refl)

pub returns-in-Dropped-clause-received : goal.returns-in-Dropped-clause-received
returns-in-Dropped-clause-received g c start segment before r =
    received-nothing g.K.ByteSink.written g.K.ByteSink.faults c.args.reception.now c.byte.new.self start before
    (outcomes_told (frame_of c.byte.new.self) c.byte.result) segment c.args.o r
    (c.byte.ensures.stands segment.first segment.octets r.stands)
    (c.byte.ensures.outcome segment.first segment.octets r.stands)
    (subst (λ s. flat_map frame_in (outcomes_told (frame_of c.byte.new.self) s) ≡ []) (sym c.in-Dropped.is) refl)

pub returns-in-Frame-clause-received : goal.returns-in-Frame-clause-received
returns-in-Frame-clause-received g c start segment before r =
    let all = segment.octets ++ c.args.o ∷ [] in
    let outcomes : List LinearOutcome = linear_outcomes segment.first segment.octets in
    let frame : ChannelFrame = record { cid = c.in-Frame.cid; frame = c.frame.result.now } in
    let was : List ChannelFrame = flat_map frame_in (before ++ outcomes) in
    let told : linear_outcomes segment.first all ≡ outcomes ++ delivery c.in-Frame.cid c.frame.result.now ∷ [] =
    c.in-Frame.ensures.outcome segment.first segment.octets r.stands
    ∙ ap (λ f. outcomes ++ outcomes_told f (Frame c.in-Frame.cid)) c.frame.ensures in
    let more : flat_map frame_in (before ++ linear_outcomes segment.first all) ≡ was ++ frame ∷ [] =
    frames-more before outcomes (delivery c.in-Frame.cid c.frame.result.now ∷ []) (linear_outcomes segment.first all)
    told in
    record {
      stands = c.in-Frame.ensures.stands segment.first segment.octets r.stands;
      text = subst (HasText g.K.ByteSink.written g.K.ByteSink.faults c.write_frame.new.lines start)
          (sym (ap (flat_map got_text) more ∙ texts-more was frame))
          (c.write_frame.ensures start (flat_map got_text was) r.text);
      got = length-more was (flat_map frame_in (before ++ linear_outcomes segment.first all)) frame
          c.args.reception.now.got more r.got;
    }
