-- What was counted is what the leg and the counts say.
use Rattle.std.proofs.Common.{◌+◌, ◌-◌, min, sym, ◌∙◌, ap, subst}
use Rattle.law_walk.specs.Common.{totals_of}
use Rattle.terminal_group.specs.declared.landed_counts.LandedCounts.{LandedCounts}
use Rattle.walk_engine.specs.walk_core.WayParts.{WayStands}
use Rattle.walk_engine.specs.Common.{Parts, counts_of}
use Rattle.walk_engine.proofs.WalkRoundAndTotalsLaws.{totals-are}
use Rattle.walk_engine.proofs.walk_core.one_way.WayCore.totals.Goals as goal

pub returns : goal.returns
returns c leg backs stands =
    let landed = c.landed-landed.ensures in
    totals-are leg backs _ (subst (WayStands leg backs) (sym c.self.view_is) stands)
    c.ticks.result c.taken.result c.accepted.result c.accepted-2.result c.all_refused.result
    (rw c.core.ensures at c.ticks.ensures) c.taken.ensures
    (c.accepted.ensures ∙ ap (λ (l : LandedCounts). l.frames - l.refused_frames) landed)
    (c.accepted-2.ensures ∙ ap (λ (l : LandedCounts). l.commands - l.refused_commands) landed)
    (c.all_refused.ensures
    ∙ ap (λ (l : LandedCounts). min (l.refused_frames + l.refused_commands) 4294967295) landed)
    ∙ ap (λ (p : Parts). totals_of leg (counts_of p backs)) c.self.view_is
