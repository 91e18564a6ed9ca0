-- It is the script's.
use Rattle.std.proofs.Common.{subst}
use Rattle.law_model.specs.Common.{leg_of}
use Rattle.walk_engine.specs.Common.{HasLanded, Walked}
use Rattle.walk_engine.proofs.walk_core.walk.Walk.landing.Goals as goal

pub returns : goal.returns
returns c =
    subst (λ (w : Walked). HasLanded (leg_of w.script) w.counts c.self.inside.landing) c.self.view_is
    c.self.invariant.1.landed
