-- A frame more is counted; and all of them.
use Rattle.std.proofs.Common.{◌+◌, ◌<◌, false, not, drop, slice_index_or, sym, ◌∙◌, ap, arith}
use Rattle.fate_service.specs.declared.landed_frames.CarriedFrame.{CarriedFrame}
use Rattle.fate_service.specs.declared.landed_frames.Tally.{Tally}
use Rattle.fate_service.specs.Outages.{lost_on}
use Rattle.std.proofs.lemmas.List.{at_drop_more, at_drop_all}
use Rattle.fate_service.proofs.LandedFrameTallyLaws.{tally-few}
use Rattle.fate_service.proofs.outages.lost_of.Goals as goal

pub loop-frame-preserved : goal.loop-frame-preserved
unfolding lost_on
loop-frame-preserved c =
    let frames = c.args.carried.now in
    let i = c.loop-frame.frame-index in
    let none : CarriedFrame = record { due = 0; octets = 0; at = 0; last = 0; got = false } in
    let own : CarriedFrame = slice_index_or frames i none in
    let small : own.octets < 65536 = omega arith in
    let next = at_drop_more (lost_on c.loop-frame.lost) frames i none c.loop-frame-test.true in
    let few = tally-few (not own.got) c.loop-frame.lost own.octets i c.loop-frame.invariant.1 c.loop-frame.invariant.2 small in
    let octets = ap (λ (t : Tally). t.octets) c.add_if.ensures in (
      ap (λ t. lost_on t (drop (i + 1) frames)) c.add_if.ensures ∙ sym next ∙ c.loop-frame.invariant.0,
      omega (arith, few.0, ap (λ (t : Tally). t.frames) c.add_if.ensures),
      omega (arith, few.1, octets),
    )

pub returns : goal.returns
unfolding lost_on
returns c =
    sym (at_drop_all (lost_on c.loop-frame.lost) c.args.carried.now c.loop-frame.frame-index c.loop-frame-test.false)
    ∙ c.loop-frame.invariant.0
