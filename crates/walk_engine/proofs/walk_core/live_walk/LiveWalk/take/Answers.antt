-- A row is taken, or stalls.
use Rattle.std.proofs.Common.{refl, sym, ◌∙◌, ap}
use Rattle.walk_engine.specs.Common.{walking_counts, take_cause}
use Rattle.walk_engine.proofs.WalkRoundAndTotalsLaws.{gives-none}
use Rattle.walk_engine.proofs.TakeRowAndBackSteps.{take-stays}
use Rattle.walk_engine.proofs.walk_core.live_walk.LiveWalk.take.Goals as goal

pub returns-in-Some-clause-makes : goal.returns-in-Some-clause-makes
returns-in-Some-clause-makes g c leg stands =
    let now = c.args.self.now in
    let stays = take-stays leg now.way now.ring now.last stands c.in-Some.cause
    (sym c.in-Some.is ∙ c.take_stall.ensures ∙ ap (λ n. take_cause n (walking_counts now)) stands.stands.total) in
    record { stands = stands; counts = stays.0; moved = stays.1 }

pub returns-in-Some-clause-gives : goal.returns-in-Some-clause-gives
returns-in-Some-clause-gives g c leg stands = gives-none g.F.FrameOut.stands_for c.args.out.now leg _ _ refl
