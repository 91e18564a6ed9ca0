-- The octets are a header, or become one when a bit is turned over, or no bit makes them one.
use Rattle.std.proofs.Common.{◌≡◌, ◌-◌, sym, ◌∙◌, ap, arith}
use Rattle.gfp_model.specs.fcs_model.NearHeader.{turned_below}
use Rattle.gfp_delineate.proofs.CorrectedHeaderBitLaws.{near-head, near-turned, turned-none, turned-some, turned-end}
use Rattle.gfp_delineate.proofs.corrected_header.read_near.Goals as goal

pub returns-in-Some-clause-value : goal.returns-in-Some-clause-value
returns-in-Some-clause-value c =
    sym (near-head c.args.octets.now c.in-Some.pli (sym c.read_core.ensures.value ∙ c.in-Some.is))

pub loop-place-init : goal.loop-place-init
loop-place-init c = near-turned c.args.octets.now (sym c.read_core.ensures.value ∙ c.in_default.is)

pub returns-in-Some-read_core-clause-value : goal.returns-in-Some-read_core-clause-value
returns-in-Some-read_core-clause-value c =
    sym (c.loop-place.invariant
    ∙ turned-some c.args.octets.now c.turned.result c.loop-place.place c.loop-place-test.true c.turned.ensures
    c.in-Some-read_core.pli (sym c.read_core-in-loop-place.ensures.value ∙ c.in-Some-read_core.is))

pub loop-place-preserved : goal.loop-place-preserved
loop-place-preserved c =
    c.loop-place.invariant
    ∙ turned-none c.args.octets.now c.turned.result c.loop-place.place c.loop-place-test.true c.turned.ensures
    (sym c.read_core-in-loop-place.ensures.value ∙ c.in_default-read_core.is)

pub returns-clause-value : goal.returns-clause-value
returns-clause-value c =
    sym (c.loop-place.invariant
    ∙ ap (λ n. turned_below n c.args.octets.now)
    (let e : 32 - c.loop-place.place ≡ 0 = omega (arith, c.loop-place-test.false) in e)
    ∙ turned-end c.args.octets.now)
