-- It stands for the legs for which the walk does.
use Rattle.std.proofs.Common.{sym, ap, subst}
use Rattle.walk_engine.specs.walk_core.WayParts.{WayStands}
use Rattle.walk_engine.specs.Common.{LiveStands, Walking, walking_counts}
use Rattle.walk_engine.proofs.walk_core.live_walk.LiveWalk.way.Goals as goal

pub returns-clause-stands : goal.returns-clause-stands
returns-clause-stands c leg stands =
    subst (λ (w : Walking). WayStands leg (walking_counts w).backs c.self.inside.way) c.self.view_is
    (subst (LiveStands leg) (sym c.self.view_is) stands).stands
