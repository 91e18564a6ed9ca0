-- A step is one draw at first, and twice as many each time.
use Rattle.std.proofs.Common.{◌≡◌, ◌+◌, ◌*◌, ◌/◌, ◌%◌, ◌^◌, ap, ◌∙◌, sym, arith}
use Rattle.law_rates.specs.Draws.{after_draws}
use Rattle.law_rates.specs.declared.number_draws.Draws.{Draws}
use Rattle.law_rates.proofs.DrawLaws.{after_draws-none}
use Rattle.law_rates.proofs.LeapLaws.{one_leap, leap_twice, leap_even, leap_odd, sum_rest}
use Rattle.law_rates.proofs.number_draws.Draws.skip.Goals as goal
use Rattle.law_rates.proofs.number_draws.Draws.skip.Goals.{then-left-eq1, else-left-eq1}

pub loop-left-init : goal.loop-left-init
loop-left-init c = (
  1,
  one_leap,
  ap (λ n. after_draws n c.args.self.now.state)
      (let e : c.args.count ≡ 1 * c.args.count = omega arith in e),
)

rest : (c : goal.Joined-left-eq1) →
    after_draws (c.loop-left.invariant.0 * c.loop-left.left) c.loop-left.self.state
    ≡ after_draws ((c.loop-left.invariant.0 + c.loop-left.invariant.0) * (c.loop-left.left / 2)) c.if-left-eq1.self.state
rest c =
    let step = c.loop-left.invariant.0 in
    let left = c.loop-left.left in
    let state = c.loop-left.self.state in
    elim c.if-left-eq1.branch [
      | then-left-eq1 w ↦ leap_odd step left state c.if-left-eq1.self.state w.if-left-eq1.true
          (ap (λ (d : Draws). d.state) w.self-is
          ∙ sum_rest (2 ^ 64) (state * c.loop-left.scale) c.loop-left.offset
          ∙ sym (c.loop-left.invariant.1 state))
      | else-left-eq1 w ↦ leap_even step left state (omega (arith, w.if-left-eq1.false))
          ∙ ap (λ (d : Draws). after_draws ((step + step) * (left / 2)) d.state) (sym w.self-is)
    ]

pub loop-left-preserved : goal.loop-left-preserved
loop-left-preserved c = (
  c.loop-left.invariant.0 + c.loop-left.invariant.0,
  leap_twice c.loop-left.invariant.0 c.loop-left.scale c.loop-left.offset c.loop-left.invariant.1,
  c.loop-left.invariant.2 ∙ rest c,
)

pub returns : goal.returns
returns c =
    let step = c.loop-left.invariant.0 in
    let none : c.loop-left.left ≡ 0 = omega (arith, c.loop-left-test.false) in
    let e : step * c.loop-left.left ≡ 0 = (let f = ap (λ n. step * n) none in omega (arith, f)) in
    sym (c.loop-left.invariant.2 ∙ ap (λ n. after_draws n c.loop-left.self.state) e
    ∙ after_draws-none c.loop-left.self.state)
