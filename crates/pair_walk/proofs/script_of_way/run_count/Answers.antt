-- One run more, and the end.
use Rattle.std.proofs.Common.{◌≡◌, ◌-◌, length, ap, arith}
use Rattle.law_pair.specs.Common.{is_unheard, unheard}
use Rattle.law_pair.proofs.RunsOfPacketsLaws.{runs_from}
use Rattle.pair_walk.specs.OneWay.{runs_left}
use Rattle.pair_walk.proofs.script_of_way.run_count.Goals as goal

pub loop-end-init : goal.loop-end-init
loop-end-init c =
    let all : length (runs_left c.args.other.now 0 c.args.packets) ≡ length (unheard c.args.other.now c.args.packets) =
    ap (λ n. length (runs_from (is_unheard c.args.other.now) 0 n))
    (let e : c.args.packets - 0 ≡ c.args.packets = omega arith in e) in
    record { count = omega (arith, all); few = omega arith; within = omega arith }

pub loop-end-preserved : goal.loop-end-preserved
loop-end-preserved c =
    let more = ap length c.in-Some.ensures.some in
    let rises = c.in-Some.ensures.rises in
    record {
      count = omega (arith, c.loop-end.invariant.count, more);
      few = omega (arith, c.loop-end.invariant.few, rises.0);
      within = rises.1;
    }

pub returns : goal.returns
returns c = omega (arith, c.loop-end.invariant.count, ap length c.in_default.ensures.none)
