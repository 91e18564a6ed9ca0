-- The oldest container in the store is the next one of the path.
use Rattle.std.proofs.Common.{◌≡◌, ◌+◌, ◌-◌, ◌∙◌, ap, subst, sym, arith}
use Rattle.law_model.specs.members.Damage.{carried}
use Rattle.member_path.specs.path_delay.CallsOnDelayedLine.{Line, DelayStands}
use Rattle.member_path.proofs.DelayedPathCellLaws.{flush-stored, flush-cells}
use Rattle.member_path.proofs.path_delay.delayed_line.LineCore.flush.Goals as goal

pub returns-else-left-eq0-clause-stands : goal.returns-else-left-eq0-clause-stands
returns-else-left-eq0-clause-stands c calls stands =
    let own = subst (λ line. DelayStands line calls) (sym c.self.view_is) stands in
    let pushed = ap (λ (line : Line). line.pushed) c.self.view_is in
    let total = ap (λ (line : Line). line.total) c.self.view_is in
    record {
      delay = own.delay;
      windows = own.windows;
      total = own.total;
      stored = ap (λ store. store.items) c.let_go.ensures.store ∙ flush-stored _ calls own (omega arith);
      pushed = own.pushed;
      flushed = omega (arith, own.flushed);
    }

pub returns-else-left-eq0-clause-cells : goal.returns-else-left-eq0-clause-cells
returns-else-left-eq0-clause-cells c calls stands =
    let own = subst (λ line. DelayStands line calls) (sym c.self.view_is) stands in
    let pushed = ap (λ (line : Line). line.pushed) c.self.view_is in
    let total = ap (λ (line : Line). line.total) c.self.view_is in
    let flushed = ap (λ (line : Line). line.flushed) c.self.view_is in
    let delay = ap (λ (line : Line). line.delay) c.self.view_is in
    let next : c.self.inside.total - (c.from.result - c.self.inside.flushed)
    ≡ c.self.inside.pushed + c.self.inside.flushed - c.self.inside.delay = omega arith in
    flush-cells _ calls c.at-fate.result _ own (omega arith) (omega arith) (omega arith)
    (c.at-fate.ensures ∙ ap (carried c.self.inside.windows) next) c.let_go.ensures.cells
