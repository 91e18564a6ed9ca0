-- The first line whose send ring is full, by the leg's ticks.
use Rattle.std.proofs.Common.{map, length, sym, ◌∙◌, ap, subst, arith}
use Rattle.law_model.specs.Common.{full}
use Rattle.walk_engine.specs.walk_core.WayParts.{WayStands}
use Rattle.walk_engine.specs.Common.{Parts, line_counts}
use Rattle.walk_engine.proofs.TickAndFullRingLaws.{lines-made, lines-few}
use Rattle.walk_engine.proofs.walk_core.one_way.WayCore.first_full.Goals as goal

pub first_full-requires-clause-few : goal.first_full-requires-clause-few
first_full-requires-clause-few c =
    let (leg, backs, stands) = c.requires in
    let few = lines-few leg backs _ (subst (WayStands leg backs) (sym c.self.view_is) stands) in
    let same = ap length c.deref.ensures.value in
    omega (arith, few, same)

pub first_full-requires-clause-made : goal.first_full-requires-clause-made
first_full-requires-clause-made c k d low =
    let (leg, backs, stands) = c.requires in
    let is = subst (WayStands leg backs) (sym c.self.view_is) stands in
    let made = lines-made leg backs _ is c.deref.result.now c.deref.ensures.value k d low in
    let total = c.total_ticks.ensures ∙ is.total in
    let ticks = rw c.core.ensures at c.ticks.ensures in
    omega (arith, made, total, ticks)

pub returns : goal.returns
returns c leg backs stands =
    let is = subst (WayStands leg backs) (sym c.self.view_is) stands in
    c.first_full.ensures
    ∙ ap (λ n. full n c.ticks.result 0 (map line_counts c.deref.result.now)) (c.total_ticks.ensures ∙ is.total)
    ∙ ap (λ n. full leg.config.ticks n 0 (map line_counts c.deref.result.now))
    (rw c.core.ensures at c.ticks.ensures)
    ∙ ap (λ lines. full leg.config.ticks c.self.inside.source.core.ticks 0 (map line_counts lines))
    c.deref.ensures.value
    ∙ ap (λ (p : Parts). full leg.config.ticks p.source.core.ticks 0 (map line_counts p.lines)) c.self.view_is
