-- What was counted is what the leg and the counts say.
use Rattle.std.proofs.Common.{sym, ◌∙◌, ap, subst}
use Rattle.law_walk.specs.Common.{totals_of}
use Rattle.walk_engine.specs.Common.{Walking, LiveStands, walking_counts}
use Rattle.walk_engine.proofs.walk_core.live_walk.LiveWalk.totals.Goals as goal

pub returns : goal.returns
returns c leg stands =
    let is = subst (LiveStands leg) (sym c.self.view_is) stands in
    c.totals.ensures leg c.self.inside.way.source.inbox.come is.stands
    ∙ ap (λ (w : Walking). totals_of leg (walking_counts w)) c.self.view_is
