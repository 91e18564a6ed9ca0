-- Behind all streams, or by the first stream that ends above the number.
use Rattle.std.proofs.Common.{◌≡◌, ◌≤◌, arith}
use Rattle.law_model.specs.session.Streams.{IsFirstAbove}
use Rattle.law_model.proofs.StreamPlacesLaws.{before_few, behind_all, behind_least}
use Rattle.law_model.proofs.script_items.streams.Streams.place.Goals as goal

pub overflow_sub-result : goal.overflow_sub-result
overflow_sub-result c =
    let least = behind_least c.self.inside.streams.items 0 0 c.self.invariant.0 in
    omega (arith, least, c.self.invariant.1, c.self.invariant.2, c.if-number-self.true)

pub returns-then-number-self : goal.returns-then-number-self
returns-then-number-self c =
    let past = c.if-number-self.true in
    let all = behind_all c.self.inside.streams.items 0 0 c.args.number c.self.invariant.0
    (omega (arith, past, c.self.invariant.1)) in
    let least = behind_least c.self.inside.streams.items 0 0 c.self.invariant.0 in
    rw (← c.self.view_is) (all.0, omega (arith, all.1, least, c.self.invariant.1, c.self.invariant.2, past))

next : (c : goal.Then-number-next) → IsFirstAbove c.self.inside.streams.items 0 c.args.number c.first_above-next.result.now
next c = rw c.deref.ensures.value at c.first_above-next.ensures

few : (c : goal.Then-number-next) → c.first_above-next.result.now.before ≤ c.args.number
few c =
    let known = before_few c.self.inside.streams.items 0 0 c.args.number c.self.invariant.0 (omega arith)
    ((next c).outside c.if-number-next.true) in
    let e = (next c).before in
    omega (arith, e, known)

pub overflow_sub-result-then-number-next : goal.overflow_sub-result-then-number-next
overflow_sub-result-then-number-next c = few c

pub returns-then-number-next : goal.returns-then-number-next
returns-then-number-next c =
    let known = few c in
    let e = (next c).before in
    rw (← c.self.view_is) ((next c).outside c.if-number-next.true, omega (arith, e, known))

pub returns-else-number-next : goal.returns-else-number-next
returns-else-number-next c =
    let next = rw c.deref.ensures.value at c.first_above-next.ensures in
    rw (← c.self.view_is) (next.inside c.if-number-next.false)
