-- It was noted.
use Rattle.std.proofs.Common.{◌∙◌, ap}
use Rattle.walk_engine.specs.Common.{Walking}
use Rattle.walk_engine.proofs.walk_core.live_walk.LiveWalk.last_step.Goals as goal

pub returns-clause-step : goal.returns-clause-step
returns-clause-step c leg stands = ap (λ (w : Walking). w.last) c.self.view_is ∙ stands.noted
