-- A frame more is counted; and all of them.
use Rattle.std.proofs.Common.{◌+◌, ◌<◌, false, drop, slice_index_or, sym, ◌∙◌, ap, arith}
use Rattle.fate_service.specs.declared.landed_frames.OfferedFrame.{OfferedFrame}
use Rattle.fate_service.specs.declared.stretch_counts.Came.{Came}
use Rattle.fate_service.specs.Stretches.{came_on}
use Rattle.std.proofs.lemmas.List.{at_drop_more, at_drop_all}
use Rattle.fate_service.proofs.LandedFrameTallyLaws.{came-few}
use Rattle.fate_service.proofs.stretch_counts.count_came.Goals as goal

pub loop-frame-preserved : goal.loop-frame-preserved
unfolding came_on
loop-frame-preserved c =
    let frames = c.args.frames.now in
    let i = c.loop-frame.frame-index in
    let came = c.loop-frame.came in
    let none : OfferedFrame = record { due = 0; octets = 0; refused = false } in
    let own : OfferedFrame = slice_index_or frames i none in
    let small : own.octets < 65536 = c.add.ensures.small in
    let few = came-few own.refused came.offered came.refused own.octets c.loop-frame.invariant.3 c.loop-frame.invariant.4 in
    let one = ap (λ (t : Came). t.offered.frames) c.add.ensures.all in
    let two = ap (λ (t : Came). t.offered.octets) c.add.ensures.all in
    let four = ap (λ (t : Came). t.refused.octets) c.add.ensures.all in (
      ap (λ t. came_on t (drop (i + 1) frames)) c.add.ensures.all
          ∙ sym (at_drop_more (came_on came) frames i none c.loop-frame-test.true) ∙ c.loop-frame.invariant.0,
      omega (arith, one, c.loop-frame.invariant.1),
      omega (arith, two, c.loop-frame.invariant.2, small),
      omega (arith, ap (λ (t : Came). t.refused.frames) c.add.ensures.all, one, few.0),
      omega (arith, four, two, few.1),
    )

pub returns : goal.returns
unfolding came_on
returns c =
    sym (at_drop_all (came_on c.loop-frame.came) c.args.frames.now c.loop-frame.frame-index c.loop-frame-test.false)
    ∙ c.loop-frame.invariant.0
