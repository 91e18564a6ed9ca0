-- It is the script's.
use Rattle.std.proofs.Common.{subst}
use Rattle.law_model.specs.Common.{leg_of}
use Rattle.walk_engine.specs.Common.{LiveStands, Walked}
use Rattle.walk_engine.proofs.walk_core.walk.Walk.live.Goals as goal

pub returns-clause-stands : goal.returns-clause-stands
returns-clause-stands c =
    subst (λ (w : Walked). LiveStands (leg_of w.script) c.self.inside.live) c.self.view_is c.self.invariant.1.stands
