-- A tick, and what comes after it.
use Rattle.std.proofs.Common.{◌∙◌, subst}
use Rattle.walk_engine.specs.Common.{GivesRows, walking_counts}
use Rattle.walk_engine.proofs.WalkRoundAndTotalsLaws.{tick-kept, tick-parts}
use Rattle.walk_engine.proofs.walk_core.live_walk.LiveWalk.round.Goals as goal

pub tick-requires-clause-stands : goal.tick-requires-clause-stands
tick-requires-clause-stands g c = let (leg, stands, none, agrees) = c.requires.ready in (leg, stands)

pub finish_round-requires : goal.finish_round-requires
finish_round-requires g c =
    let (leg, stands, none, agrees) = c.requires.ready in
    (leg, (c.tick.ensures.makes leg stands none agrees).stands)

pub returns-clause-rounds : goal.returns-clause-rounds
returns-clause-rounds g c leg stands none agrees =
    let ticks = c.tick.ensures.makes leg stands none agrees in
    let finishes = c.finish_round.ensures.finishes leg ticks.stands in
    record {
      stands = finishes.stands;
      counts = tick-parts leg (walking_counts c.args.self.now) (walking_counts c.tick.new.self) (walking_counts c.finish_round.new.self)
          ticks.counts finishes.counts;
    }

pub returns-clause-gives : goal.returns-clause-gives
returns-clause-gives g c leg stands none agrees =
    let ticks = c.tick.ensures.makes leg stands none agrees in
    subst (λ n. GivesRows g.F.FrameOut.stands_for c.args.out.now c.finish_round.new.out leg n (walking_counts c.finish_round.new.self).rows)
    (tick-kept leg (walking_counts c.args.self.now) (walking_counts c.tick.new.self) ticks.counts)
    (c.finish_round.ensures.gives leg ticks.stands)

pub returns-clause-windows : goal.returns-clause-windows
returns-clause-windows g c = c.finish_round.ensures.windows ∙ c.tick.ensures.windows
