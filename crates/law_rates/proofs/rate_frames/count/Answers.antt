-- A turn has octets, and the count is within 64 bits.
use Rattle.std.proofs.Common.{◌≡◌, ◌+◌, ◌-◌, ◌*◌, ◌/◌, ◌<◌, ◌≤◌, length, arith, subst, ap, ap₂, ◌∙◌, sym, ◌%◌}
use Rattle.std.proofs.lemmas.Nat.{mul-le}
use Rattle.std.proofs.Math.Nat.{div-le_self}
use Rattle.law_rates.specs.Limits.{most_sizes}
use Rattle.law_rates.specs.Rates.{octets_before, begun_within}
use Rattle.law_rates.proofs.RateCountLaws.{some_octets, begun_few}
use Rattle.law_rates.proofs.rate_frames.count.Goals as goal

turn : (c : goal.After-turn_octets-turn) → 0 < c.turn_octets-turn.result
turn c =
    let same = ap (λ sizes. octets_before sizes (length sizes)) c.as_slice-sizes.ensures.sizes in
    let some = some_octets c.args.rate.now c.requires in
    omega (arith, same, some, c.turn_octets-turn.ensures)

pub nonzero_div-result : goal.nonzero_div-result
nonzero_div-result c = turn c

pub nonzero_rem-octets : goal.nonzero_rem-octets
nonzero_rem-octets c = turn c

pub overflow_add-result : goal.overflow_add-result
overflow_add-result c =
    let bits = mul-le c.from.result (125 * c.from-2.result) 100000000 50000000
    (omega (arith, c.from.ensures, c.requires.end)) (omega (arith, c.from-2.ensures, c.requires.slow)) in
    let turns = div-le_self ((c.from.result * (125 * c.from-2.result) - 1) / 8) c.turn_octets-turn.result in
    let octets = div-le_self (c.from.result * (125 * c.from-2.result) - 1) 8 in
    let few : length c.as_slice-sizes.result.now ≤ 16 = c.as_slice-sizes.ensures.few in
    let product = mul-le (length c.as_slice-sizes.result.now)
    ((c.from.result * (125 * c.from-2.result) - 1) / 8 / c.turn_octets-turn.result) 16 5000000000000000 few
    (omega (arith, bits, turns, octets)) in
    let begun = begun_few c.as_slice-sizes.result.now
    ((c.from.result * (125 * c.from-2.result) - 1) / 8 % c.turn_octets-turn.result)
    (length c.as_slice-sizes.result.now) in
    omega (arith, product, begun, few, c.begun_within.ensures)
