-- What was counted is what the script and the counts say.
use Rattle.std.proofs.Common.{◌∙◌, ap}
use Rattle.law_model.specs.Common.{leg_of}
use Rattle.law_walk.specs.Common.{totals_of}
use Rattle.walk_engine.specs.Common.{Walked}
use Rattle.walk_engine.proofs.walk_core.walk.Walk.totals.Goals as goal

pub returns : goal.returns
returns c =
    c.totals.ensures (leg_of c.self.inside.script) c.self.invariant.1.stands
    ∙ ap (λ (w : Walked). totals_of (leg_of w.script) w.counts) c.self.view_is
