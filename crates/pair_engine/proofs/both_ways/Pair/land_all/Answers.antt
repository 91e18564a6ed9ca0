-- Items land until one stalls.
use Rattle.std.proofs.Common.{refl, sym, ◌∙◌}
use Rattle.pair_engine.specs.PairAfterEvent.{plan_of}
use Rattle.pair_engine.proofs.PairEventAndRoundLaws.{landed-none, still, item-turn, item-end, moved-none, stalled-some}
use Rattle.pair_engine.proofs.both_ways.Pair.land_all.Goals as goal

pub loop-init : goal.loop-init
loop-init c = record {
  pair = refl;
  landed = landed-none (plan_of c.args.self.now) c.args.way c.args.self.now.counts;
  rows = record { there = refl; back = refl };
}

pub loop-preserved : goal.loop-preserved
loop-preserved c =
    let inv = c.loop.invariant in
    let land = c.land.ensures in
    record {
      pair = still c.args.self.now c.loop.self c.land.new.self c.args.way inv.pair land.pair land.fits land.walked
          inv.landed;
      landed = (item-turn c.args.self.now c.loop.self c.land.new.self c.args.way inv.pair land.pair land.fits
          land.walked inv.landed (moved-none _ _ c.land.result land.moved c.in_default.not-Stalled)).0;
      rows = record { there = land.rows.there ∙ inv.rows.there; back = land.rows.back ∙ inv.rows.back };
    }

pub loop-smaller : goal.loop-smaller
loop-smaller c =
    let inv = c.loop.invariant in
    let land = c.land.ensures in
    (item-turn c.args.self.now c.loop.self c.land.new.self c.args.way inv.pair land.pair land.fits land.walked
    inv.landed (moved-none _ _ c.land.result land.moved c.in_default.not-Stalled)).1

pub returns-in-Stalled-clause-pair : goal.returns-in-Stalled-clause-pair
returns-in-Stalled-clause-pair c =
    let inv = c.loop.invariant in
    let land = c.land.ensures in
    let (own, is) = stalled-some _ _ c.in-Stalled.field-0 c.in-Stalled.field-1 (sym c.in-Stalled.is ∙ land.moved) in
    item-end c.args.self.now c.loop.self c.land.new.self c.args.way inv.pair land.pair land.fits land.walked
    inv.landed own is
