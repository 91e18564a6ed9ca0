-- One size more.
use Rattle.std.proofs.Common.{◌≡◌, ◌≤◌, ◌<◌, ◌+◌, length, sym, ap, ◌∙◌, arith}
use Rattle.law_rates.specs.Rates.{octets_before, begun_within}
use Rattle.law_rates.specs.Limits.{most_sizes}
use Rattle.law_rates.proofs.RateFrameLaws.{before_none, before_more, size_here}
use Rattle.law_rates.proofs.RateCountLaws.{begun_none, begun_yes, begun_no, begun_few}
use Rattle.law_rates.proofs.rate_frames.begun_within.Goals as goal
use Rattle.law_rates.proofs.rate_frames.begun_within.Goals.{then-before-octets, else-before-octets}

pub loop-size-init : goal.loop-size-init
loop-size-init c = record {
  before = sym (before_none c.args.sizes.now);
  few = omega arith;
  begun = sym (begun_none c.args.sizes.now c.args.octets);
}

pub overflow_add-begun : goal.overflow_add-begun
overflow_add-begun c =
    let few = begun_few c.args.sizes.now c.args.octets c.loop-size.size-index in
    omega (arith, few, c.loop-size.invariant.begun, c.loop-size-test.true, c.requires)

size : (c : goal.After-from-before) → c.from-before.result ≤ 65535
size c = let fits = c.type_inv.sizes c.loop-size.size-index in omega (arith, fits, c.from-before.ensures)

pub overflow_add-before : goal.overflow_add-before
overflow_add-before c =
    omega (arith, size c, c.loop-size.invariant.few, c.loop-size-test.true, c.requires)

pub loop-size-preserved : goal.loop-size-preserved
loop-size-preserved c =
    let step = before_more c.args.sizes.now (c.loop-size.size-index + 1) c.loop-size.size-index (omega arith) in
    let here = size_here c.args.sizes.now c.loop-size.size-index c.loop-size-test.true in
    record {
      before = omega (arith, step, here, c.loop-size.invariant.before, c.from-before.ensures);
      few = omega (arith, size c, c.loop-size.invariant.few);
      begun = elim c.if-before-octets.branch [
        | then-before-octets w ↦ (
            let more = begun_yes c.args.sizes.now c.args.octets (c.loop-size.size-index + 1) c.loop-size.size-index
            (omega arith) (omega (arith, w.if-before-octets.true, c.loop-size.invariant.before)) in
            omega (arith, more, w.begun-is, c.loop-size.invariant.begun))
        | else-before-octets w ↦ (
            let more = begun_no c.args.sizes.now c.args.octets (c.loop-size.size-index + 1) c.loop-size.size-index
            (omega arith) (omega (arith, w.if-before-octets.false, c.loop-size.invariant.before)) in
            omega (arith, more, w.begun-is, c.loop-size.invariant.begun))
      ];
    }

pub returns : goal.returns
returns c =
    let last : c.loop-size.size-index ≡ length c.args.sizes.now =
    omega (arith, c.loop-size-test.false, c.loop-size.auto.size-index-end) in
    c.loop-size.invariant.begun ∙ ap (begun_within c.args.sizes.now c.args.octets) last
