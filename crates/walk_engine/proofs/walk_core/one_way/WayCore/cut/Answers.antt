-- The line has other windows, which say the same of each container so far.
use Rattle.std.proofs.Common.{rules, ℕ, ◌<◌, ◌≤◌, List, length, ◌∙◌, ap, subst, arith}
use Rattle.law_model.specs.Common.{Leg}
use Rattle.law_model.specs.declared.window_types.Window.{Window}
use Rattle.member_path.specs.failure_window.OpenWindows.{last_end, opened_at}
use Rattle.member_path.proofs.FailureWindowListLaws.{opened-before}
use Rattle.walk_engine.specs.Common.{Parts, calls_of}
use Rattle.walk_engine.specs.walk_core.WayParts.{WayStands}
use Rattle.walk_engine.proofs.DamagedWindowsSteps.{line-damaged, line-was}
use Rattle.walk_engine.proofs.walk_core.one_way.WayCore.cut.Goals as goal

pub cut-requires : goal.cut-requires
cut-requires c =
    let (leg, backs, stands) = c.requires.stands in
    let was = line-was leg backs _ _ c.self.view_is stands c.args.line c.from-m.result c.from-m.ensures c.requires.line
    c.index_mut.result.now c.index_mut.ensures.value in
    let ticks = (rw c.core.ensures at c.ticks-first.ensures) ∙ ap (λ (p : Parts). p.source.core.ticks) c.self.view_is in
    let after = subst (λ (w : List Window). last_end w ≤ c.args.self.now.source.core.ticks) was.windows c.requires.after in
    let left = c.requires.left in
    let total = was.total in
    let pushed = was.pushed in
    record {
      few = subst (λ (w : List Window). length w < 256) was.windows c.requires.few;
      after = omega (arith, ticks, after);
      left = omega (arith, ticks, total, left);
      pushed = omega (arith, ticks, pushed);
    }

pub returns : goal.returns
returns c =
    let line = c.index_mut.result.now in
    let first = c.ticks-first.result in
    let damaged = λ (leg : Leg) (backs : ℕ) (stands : WayStands leg backs c.args.self.now).
    line-damaged leg backs _ _ c.self.view_is stands c.args.line c.from-m.result c.from-m.ensures c.requires.line
    line c.index_mut.ensures.value opened_at c.cut.new.self first
    (rw c.core.ensures at c.ticks-first.ensures)
    (c.cut.ensures.has (calls_of leg c.args.line line)) (opened-before line.core.windows first leg.config.ticks)
    c.cut.ensures.ring c.cut.ensures.carried c.cut.ensures.popped in
    let (leg, backs, stands) = c.requires.stands in
    record {
      stands = λ leg backs stands. (damaged leg backs stands).stands;
      counts = (damaged leg backs stands).counts;
      windows = (damaged leg backs stands).windows;
      rest = search rules;
    }
