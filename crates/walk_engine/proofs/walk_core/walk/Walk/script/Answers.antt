-- A walk of a script that can be walked, after some events.
use Rattle.std.proofs.Common.{subst}
use Rattle.law_model.specs.Common.{IsValid, leg_of}
use Rattle.law_walk.specs.Common.{IsWalked}
use Rattle.walk_engine.specs.Common.{Walked}
use Rattle.walk_engine.proofs.walk_core.walk.Walk.script.Goals as goal

pub returns-clause-valid : goal.returns-clause-valid
returns-clause-valid c = subst (λ (w : Walked). IsValid w.script) c.self.view_is c.self.invariant.0

pub returns-clause-walked : goal.returns-clause-walked
returns-clause-walked c =
    subst (λ (w : Walked). IsWalked (leg_of w.script) w.counts) c.self.view_is c.self.invariant.1.stands.stands.walked
