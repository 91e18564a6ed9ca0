-- A frame more; and all of them.
use Rattle.std.proofs.Common.{◌+◌, false, drop, sym, ◌∙◌, ap, arith}
use Rattle.fate_service.specs.declared.landed_frames.OfferedFrame.{OfferedFrame}
use Rattle.fate_service.specs.Stretches.{told_on}
use Rattle.std.proofs.lemmas.List.{at_drop_more, at_drop_all}
use Rattle.fate_service.proofs.service_report.told_ticks.Goals as goal

pub loop-frame-preserved : goal.loop-frame-preserved
unfolding told_on
loop-frame-preserved c =
    let frames = c.args.offered.now in
    let i = c.loop-frame.frame-index in
    let none : OfferedFrame = record { due = 0; octets = 0; refused = false } in
    let low = c.loop-frame.invariant.1 in (
      ap (λ n. told_on n (drop (i + 1) frames)) c.max-told.ensures
          ∙ sym (at_drop_more (told_on c.loop-frame.told) frames i none c.loop-frame-test.true) ∙ c.loop-frame.invariant.0,
      omega (arith, c.max-told.ensures, c.requires.early i none c.loop-frame-test.true, low),
    )

pub returns-clause-told : goal.returns-clause-told
unfolding told_on
returns-clause-told c =
    sym (at_drop_all (told_on c.loop-frame.told) c.args.offered.now c.loop-frame.frame-index c.loop-frame-test.false)
    ∙ c.loop-frame.invariant.0
