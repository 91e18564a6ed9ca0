-- A frame more is counted; and all of them.
use Rattle.std.proofs.Common.{◌+◌, ◌<◌, false, drop, slice_index_or, sym, ◌∙◌, ap, subst}
use Rattle.fate_service.specs.declared.landed_frames.CarriedFrame.{CarriedFrame}
use Rattle.fate_service.specs.Stretches.{ended_on}
use Rattle.std.proofs.lemmas.List.{at_drop_more, at_drop_all}
use Rattle.fate_service.proofs.LandedFrameTallyLaws.{IsFew, carried-more}
use Rattle.fate_service.proofs.stretch_counts.count_ended.Goals as goal

pub loop-frame-preserved : goal.loop-frame-preserved
unfolding ended_on
loop-frame-preserved c =
    let frames = c.args.frames.now in
    let i = c.loop-frame.frame-index in
    let none : CarriedFrame = record { due = 0; octets = 0; at = 0; last = 0; got = false } in
    let own : CarriedFrame = slice_index_or frames i none in
    let small : own.octets < 65536 = c.add.ensures.small in
    let few : IsFew (i + 1) c.add.new.self =
    subst (IsFew (i + 1)) (sym c.add.ensures.all) (carried-more c.loop-frame.ended own i
    (c.loop-frame.invariant.1, c.loop-frame.invariant.2, c.loop-frame.invariant.3, c.loop-frame.invariant.4) small) in (
      ap (λ t. ended_on t (drop (i + 1) frames)) c.add.ensures.all
          ∙ sym (at_drop_more (ended_on c.loop-frame.ended) frames i none c.loop-frame-test.true) ∙ c.loop-frame.invariant.0,
      few.0,
      few.1,
      few.2,
      few.3,
    )

pub returns : goal.returns
unfolding ended_on
returns c =
    sym (at_drop_all (ended_on c.loop-frame.ended) c.args.frames.now c.loop-frame.frame-index c.loop-frame-test.false)
    ∙ c.loop-frame.invariant.0
