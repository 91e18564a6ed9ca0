-- The table that the decision steps leave.
use Rattle.std.proofs.Common.{◌≡◌, sym, ◌∙◌, ap, subst}
use Rattle.law_model.specs.Common.{Course, steps_in, source_at}
use Rattle.law_walk.specs.Common.{landed_scenario, told_before, table_in}
use Rattle.walk_engine.specs.walk_core.WayParts.{WayStands}
use Rattle.walk_engine.specs.Common.{Parts, counts_of}
use Rattle.walk_engine.proofs.TickAndFullRingLaws.{source-after, table-after}
use Rattle.walk_engine.proofs.walk_core.one_way.WayCore.table.Goals as goal

pub returns-clause-source : goal.returns-clause-source
returns-clause-source c leg backs stands =
    rw (c.table.ensures.table, c.core.ensures)
    (source-after leg backs _ (subst (WayStands leg backs) (sym c.self.view_is) stands)
    ∙ ap (λ (p : Parts). source_at (landed_scenario leg (counts_of p backs)) (told_before leg p.source.core.ticks)
    (steps_in p.source.core.ticks)) c.self.view_is)

pub returns-clause-table : goal.returns-clause-table
returns-clause-table c leg backs stands =
    rw (c.table.ensures.table, c.core.ensures)
    (table-after leg backs _ (subst (WayStands leg backs) (sym c.self.view_is) stands)
    ∙ ap (λ (p : Parts). table_in leg p.source.core.ticks) c.self.view_is)
