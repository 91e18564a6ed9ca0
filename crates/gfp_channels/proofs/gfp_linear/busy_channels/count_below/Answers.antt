-- The one in the middle tells of half of them.
use Rattle.std.proofs.Common.{◌≡◌, ℕ, suc, ◌+◌, ◌-◌, ◌/◌, ◌<◌, ◌≤◌, List, All, length, take, subst, arith}
use Rattle.std.proofs.Common.{slice_index_or}
use Rattle.gfp_channels.proofs.BusyChannelTurnLaws.{rising-below, rising-from}
use Rattle.gfp_channels.proofs.gfp_linear.busy_channels.count_below.Goals as goal

pub loop-low-preserved-then-from-least : goal.loop-low-preserved-then-from-least
loop-low-preserved-then-from-least c =
    let busy : List ℕ = c.args.busy.now in
    let least : ℕ = c.args.least in
    let middle : ℕ = c.loop-low.low + (c.loop-low.high - c.loop-low.low) / 2 in
    let inside : middle < length busy = omega (arith, c.loop-low-test.true, c.loop-low.invariant.within) in
    let low : slice_index_or busy middle 0 < least = subst (λ (n : ℕ). n < least) c.from.ensures c.if-from-least.true in
    let next : suc middle ≡ middle + 1 = omega arith in
    record {
      order = omega (arith, c.loop-low-test.true);
      within = c.loop-low.invariant.within;
      below = subst (λ (k : ℕ). All (λ cid. cid < least) (take k busy)) next
          (rising-below busy middle least c.requires inside low);
      from = c.loop-low.invariant.from;
    }

pub loop-low-preserved : goal.loop-low-preserved
loop-low-preserved c =
    let busy : List ℕ = c.args.busy.now in
    let least : ℕ = c.args.least in
    let middle : ℕ = c.loop-low.low + (c.loop-low.high - c.loop-low.low) / 2 in
    let inside : middle < length busy = omega (arith, c.loop-low-test.true, c.loop-low.invariant.within) in
    let high : least ≤ slice_index_or busy middle 0 =
    subst (λ (n : ℕ). least ≤ n) c.from.ensures (omega (arith, c.if-from-least.false)) in
    record {
      order = omega (arith, c.loop-low-test.true);
      within = omega (arith, c.loop-low-test.true, c.loop-low.invariant.within);
      below = c.loop-low.invariant.below;
      from = rising-from busy middle least c.requires inside high;
    }
