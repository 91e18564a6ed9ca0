-- The bounds come nearer; and they meet at the least.
use Rattle.std.proofs.Common.{◌≡◌, ℕ, ◌+◌, ◌-◌, ◌/◌, ◌<◌, nat_le, sym, ◌∙◌, ap, arith}
use Rattle.std.proofs.lemmas.Bool.{lt-leb}
use Rattle.fate_service.specs.Delays.{count_within}
use Rattle.fate_service.proofs.LandedFrameTallyLaws.{within-rises, least-is}
use Rattle.fate_service.proofs.frame_delays.least_delay.Goals as goal

pub loop-low-preserved : goal.loop-low-preserved
loop-low-preserved c =
    let carried = c.args.carried.now in
    let middle : ℕ = c.loop-low.low + (c.loop-low.high - c.loop-low.low) / 2 in
    let few : count_within carried middle < c.args.frames =
    (let a = c.count_within.ensures in let b = c.from.ensures in let d = c.if-from-frames.false in omega (arith, a, b, d)) in (
      omega (arith, c.loop-low-test.true),
      c.loop-low.invariant.1,
      (λ d below. lt-leb c.args.frames (count_within carried d)
          (let up = within-rises carried d middle 0 0 (omega (arith, below)) (omega arith) in omega (arith, up, few))),
      c.loop-low.invariant.3,
    )

pub returns : goal.returns
returns c =
    let inv = c.loop-low.invariant in
    let low = inv.0 in
    let same : c.loop-low.low ≡ c.loop-low.high = let end = c.loop-low-test.false in omega (arith, low, end) in
    sym (least-is (λ d. nat_le c.args.frames (count_within c.args.carried.now d)) 0 c.args.greatest c.loop-low.low
    (omega arith) (omega (arith, low, inv.1)) inv.2
    (λ before. ap (λ d. nat_le c.args.frames (count_within c.args.carried.now d)) same
    ∙ inv.3 (omega (arith, before, same))))
