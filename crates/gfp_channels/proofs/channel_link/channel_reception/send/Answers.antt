-- An octet of a cut, and one that arrives.
use Rattle.std.proofs.Common.{◌≡◌, ◌+◌, ◌<◌, false, true, List, [], length, get_or, sym, ◌∙◌, ap, subst, arith}
use Rattle.law_model.specs.Common.{Segment}
use Rattle.gfp_model.specs.declared.linear_model.Cut.{Cut}
use Rattle.gfp_channels.specs.gfp_linear.Delineator.{StandsIn}
use Rattle.gfp_channels.specs.declared.channel_link.channel_reception.Reception.{Reception}
use Rattle.gfp_channels.specs.channel_link.Run.{ended_by, ended_outcomes, open_segment}
use Rattle.gfp_channels.proofs.CutSegmentReceptionLaws.{skips}
use Rattle.gfp_channels.proofs.CutSegmentReceptionLaws.{received-cut, received-next}
use Rattle.gfp_channels.proofs.channel_link.channel_reception.send.Goals.{then-place-cut, else-place-cut}
use Rattle.gfp_channels.proofs.channel_link.channel_reception.send.Goals.{then-place-cut-2, else-place-cut-2}
use Rattle.gfp_channels.proofs.channel_link.channel_reception.send.Goals.{else-reception-cuts-via-then-reception-cuts+else-place-cuts}
use Rattle.gfp_channels.proofs.channel_link.channel_reception.send.Goals.{else-reception-cuts-via-else-reception-cuts}
use Rattle.gfp_channels.proofs.channel_link.channel_reception.send.Goals as goal

pub returns-then-place-cuts-clause-received : goal.returns-then-place-cuts-clause-received
returns-then-place-cuts-clause-received g c start sent was =
    let d : Cut = record { first = 0; end = 0 } in
    let cuts : List Cut = c.args.cuts.now in
    let old : Reception g.row.K.Denot = c.args.reception.now in
    let one : Reception g.row.K.Denot = c.if-place-cut.reception in
    let new : Reception g.row.K.Denot = c.if-place-cut-2.reception in
    let cut : Cut = get_or cuts old.ended d in
    let segment : Segment = open_segment 0 true cuts sent in
    let count : old.ended ≡ ended_by old.place cuts = was.ended ∙ ap (λ n. ended_by n cuts) (sym was.place) in
    let none : length sent ≡ 0 + length sent = omega arith in
    let step = skips 0 c.requires.order.0 old.place old.ended true cuts d sent c.args.o c.requires.order.1
    (was.place ∙ none) count c.if-reception-cuts.true c.if-place-cuts.true in
    let first : (one.lines ≡ old.lines) × (one.got ≡ old.got) × (one.place ≡ old.place + 1)
    × (one.ended ≡ old.ended) × StandsIn one.delineator false [] =
    elim c.if-place-cut.branch [
      | then-place-cut w ↦ (
        ap (λ (r : Reception g.row.K.Denot). r.lines) w.reception-is,
        ap (λ (r : Reception g.row.K.Denot). r.got) w.reception-is,
        ap (λ (r : Reception g.row.K.Denot). r.place) w.reception-is,
        ap (λ (r : Reception g.row.K.Denot). r.ended) w.reception-is,
        subst (λ (r : Reception g.row.K.Denot). StandsIn r.delineator false []) (sym w.reception-is)
            (w.broken.ensures.stands segment.first segment.octets was.goes_on.stands),
      )
      | else-place-cut w ↦
          let behind : cut.first < 0 + length sent =
          omega (arith, c.if-place-cuts.true, w.if-place-cut.false, was.place) in (
            ap (λ (r : Reception g.row.K.Denot). r.lines) w.reception-is,
            ap (λ (r : Reception g.row.K.Denot). r.got) w.reception-is,
            ap (λ (r : Reception g.row.K.Denot). r.place) w.reception-is,
            ap (λ (r : Reception g.row.K.Denot). r.ended) w.reception-is,
            subst (λ (r : Reception g.row.K.Denot). StandsIn r.delineator false []) (sym w.reception-is)
                (subst (λ (s : Segment). StandsIn old.delineator s.first s.octets) (step.was behind)
                was.goes_on.stands),
          )
    ] in
    let kept : (new.delineator ≡ one.delineator) × (new.lines ≡ one.lines) × (new.got ≡ one.got)
    × (new.place ≡ one.place) × (new.ended ≡ ended_by (length sent + 1) cuts) =
    elim c.if-place-cut-2.branch [
      | then-place-cut-2 w ↦ (
        ap (λ (r : Reception g.row.K.Denot). r.delineator) w.reception-is,
        ap (λ (r : Reception g.row.K.Denot). r.lines) w.reception-is,
        ap (λ (r : Reception g.row.K.Denot). r.got) w.reception-is,
        ap (λ (r : Reception g.row.K.Denot). r.place) w.reception-is,
        ap (λ (r : Reception g.row.K.Denot). r.ended) w.reception-is
            ∙ ap (λ n. n + 1) (first.3 ∙ was.ended ∙ ap (λ n. ended_by n cuts) none)
            ∙ sym (step.counted (omega (arith, w.if-place-cut-2.true, was.place)))
            ∙ ap (λ n. ended_by (n + 1) cuts) (sym none),
      )
      | else-place-cut-2 w ↦ (
        ap (λ (r : Reception g.row.K.Denot). r.delineator) w.reception-is,
        ap (λ (r : Reception g.row.K.Denot). r.lines) w.reception-is,
        ap (λ (r : Reception g.row.K.Denot). r.got) w.reception-is,
        ap (λ (r : Reception g.row.K.Denot). r.place) w.reception-is,
        ap (λ (r : Reception g.row.K.Denot). r.ended) w.reception-is
            ∙ (first.3 ∙ was.ended ∙ ap (λ n. ended_by n cuts) none)
            ∙ sym (step.uncounted (omega (arith, w.if-place-cut-2.false, was.place)))
            ∙ ap (λ n. ended_by (n + 1) cuts) (sym none),
      )
    ] in
    received-cut g.K.ByteSink.written g.K.ByteSink.faults old new start cuts cut sent c.args.o was step
    (subst (λ s. StandsIn s false []) (sym kept.0) first.4) (kept.1 ∙ first.0) (kept.2 ∙ first.1)
    (kept.3 ∙ first.2) kept.4

pub returns-clause-received : goal.returns-clause-received
returns-clause-received g c start sent was =
    let d : Cut = record { first = 0; end = 0 } in
    let cuts : List Cut = c.args.cuts.now in
    let old : Reception g.row.K.Denot = c.args.reception.now in
    let later : old.ended < length cuts → old.place < (get_or cuts old.ended d).first =
    elim c.else-reception-cuts.branch [
      | else-reception-cuts-via-then-reception-cuts+else-place-cuts w ↦ λ inside. w.if-place-cuts.false
      | else-reception-cuts-via-else-reception-cuts w ↦ λ inside.
          absurd (omega (arith, inside, w.if-reception-cuts.false))
    ] in
    received-next g.K.ByteSink.written g.K.ByteSink.faults old c.receive.new.reception start c.requires.order.0 cuts d
    sent c.args.o c.requires.order.1 was later
    (c.receive.ensures.received start (open_segment 0 true cuts sent) (ended_outcomes 0 true cuts sent)
    (record { stands = was.goes_on.stands; text = was.goes_on.text; got = was.goes_on.got }))
    c.receive.ensures.place c.receive.ensures.ended
