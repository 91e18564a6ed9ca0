-- A frame more is counted; and all of them.
use Rattle.std.proofs.Common.{◌≡◌, ◌+◌, ◌&&◌, nat_le, true, false, drop, slice_index_or, sym, ◌∙◌, ap, arith}
use Rattle.std.specs.Prelude.{if◌then◌else◌}
use Rattle.fate_service.specs.declared.landed_frames.CarriedFrame.{CarriedFrame}
use Rattle.fate_service.specs.Stretches.{delay_of}
use Rattle.fate_service.specs.Delays.{within_on}
use Rattle.std.proofs.lemmas.List.{at_drop_more, at_drop_all}
use Rattle.fate_service.proofs.frame_delays.count_within.Goals as goal
use Rattle.fate_service.proofs.frame_delays.count_within.Goals.{then-is_within, else-is_within}

pub loop-frame-preserved : goal.loop-frame-preserved
unfolding within_on
loop-frame-preserved c =
    let frames = c.args.carried.now in
    let i = c.loop-frame.frame-index in
    let most = c.args.most in
    let n = c.loop-frame.count in
    let low = c.loop-frame.invariant.1 in
    let none : CarriedFrame = record { due = 0; octets = 0; at = 0; last = 0; got = false } in
    let own : CarriedFrame = slice_index_or frames i none in
    let next = at_drop_more (within_on n most) frames i none c.loop-frame-test.true in
    elim c.if-is_within.branch [
      | then-is_within w ↦
          let yes : (own.got && nat_le (delay_of own) most) ≡ true = sym c.is_within.ensures ∙ w.if-is_within.true in
          let count = w.count-is in (
            ap (λ k. within_on k most (drop (i + 1) frames)) (w.count-is ∙ sym (ap (λ b. if b then n + 1 else n) yes))
                ∙ sym next ∙ c.loop-frame.invariant.0,
            omega (arith, count, low),
          )
      | else-is_within w ↦
          let no : (own.got && nat_le (delay_of own) most) ≡ false = sym c.is_within.ensures ∙ w.if-is_within.false in
          let count = w.count-is in (
            ap (λ k. within_on k most (drop (i + 1) frames)) (w.count-is ∙ sym (ap (λ b. if b then n + 1 else n) no))
                ∙ sym next ∙ c.loop-frame.invariant.0,
            omega (arith, count, low),
          )
    ]

pub returns : goal.returns
unfolding within_on
returns c =
    sym (at_drop_all (within_on c.loop-frame.count c.args.most) c.args.carried.now c.loop-frame.frame-index c.loop-frame-test.false)
    ∙ c.loop-frame.invariant.0
