-- The line has other windows, which say the same of each container so far.
use Rattle.std.proofs.Common.{rules, ℕ, List, ◌∙◌, ap, subst, sym, arith}
use Rattle.law_model.specs.Common.{Leg}
use Rattle.law_model.specs.declared.window_types.Window.{Window}
use Rattle.member_path.specs.failure_window.OpenWindows.{CanClose, closed_at}
use Rattle.member_path.proofs.FailureWindowListLaws.{closed-before}
use Rattle.walk_engine.specs.Common.{Parts, calls_of}
use Rattle.walk_engine.specs.walk_core.WayParts.{WayStands}
use Rattle.walk_engine.proofs.DamagedWindowsSteps.{line-damaged, line-was}
use Rattle.walk_engine.proofs.walk_core.one_way.WayCore.mend.Goals as goal
use Rattle.walk_engine.proofs.walk_core.one_way.WayCore.mend.Goals.{After-index_mut}

can-mend : (c : After-index_mut) → CanClose c.index_mut.result.now.core.windows c.ticks-end.result
can-mend c =
    let (leg, backs, stands) = c.requires.stands in
    let was = line-was leg backs _ _ c.self.view_is stands c.args.line c.from-m.result c.from-m.ensures c.requires.line
    c.index_mut.result.now c.index_mut.ensures.value in
    subst (CanClose c.index_mut.result.now.core.windows)
    (sym ((rw c.core.ensures at c.ticks-end.ensures) ∙ ap (λ (p : Parts). p.source.core.ticks) c.self.view_is))
    (subst (λ (w : List Window). CanClose w c.args.self.now.source.core.ticks) was.windows c.requires.cut)

pub mend-requires : goal.mend-requires
mend-requires c =
    let (leg, backs, stands) = c.requires.stands in
    let was = line-was leg backs _ _ c.self.view_is stands c.args.line c.from-m.result c.from-m.ensures c.requires.line
    c.index_mut.result.now c.index_mut.ensures.value in
    let ticks = (rw c.core.ensures at c.ticks-end.ensures) ∙ ap (λ (p : Parts). p.source.core.ticks) c.self.view_is in
    let pushed = was.pushed in
    record { cut = can-mend (goal.at.mend-requires c).After-index_mut; pushed = omega (arith, ticks, pushed) }

pub returns : goal.returns
returns c =
    let line = c.index_mut.result.now in
    let end = c.ticks-end.result in
    let damaged = λ (leg : Leg) (backs : ℕ) (stands : WayStands leg backs c.args.self.now).
    line-damaged leg backs _ _ c.self.view_is stands c.args.line c.from-m.result c.from-m.ensures c.requires.line
    line c.index_mut.ensures.value (λ w n _. closed_at w n) c.mend.new.self end
    (rw c.core.ensures at c.ticks-end.ensures)
    (c.mend.ensures.has (calls_of leg c.args.line line))
    (λ t low. closed-before line.core.windows end t (can-mend (goal.at.returns c).After-index_mut) low)
    c.mend.ensures.ring c.mend.ensures.carried c.mend.ensures.popped in
    let (leg, backs, stands) = c.requires.stands in
    record {
      stands = λ leg backs stands. (damaged leg backs stands).stands;
      counts = (damaged leg backs stands).counts;
      windows = (damaged leg backs stands).windows;
      rest = search rules;
    }
