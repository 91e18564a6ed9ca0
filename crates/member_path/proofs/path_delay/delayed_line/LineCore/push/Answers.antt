-- A full store lets its oldest container go, which is the next one of the path.
use Rattle.std.proofs.Common.{◌-◌, [], ◌∷◌, ◌∙◌, ap, subst, sym, arith, length-append}
use Rattle.law_model.specs.members.Damage.{carried}
use Rattle.member_path.specs.path_delay.CallsOnDelayedLine.{Line, DelayStands}
use Rattle.member_path.proofs.DelayedPathCellLaws.{push-stored, push-cells, none-flushed}
use Rattle.member_path.proofs.path_delay.delayed_line.LineCore.push.Goals as goal

pub returns-in-Some-clause-stands : goal.returns-in-Some-clause-stands
returns-in-Some-clause-stands c calls stands =
    let own = subst (λ line. DelayStands line calls) (sym c.self.view_is) stands in
    let pushed = ap (λ (line : Line). line.pushed) c.self.view_is in
    let total = ap (λ (line : Line). line.total) c.self.view_is in
    let delay = ap (λ (line : Line). line.delay) c.self.view_is in
    let none = none-flushed c.self.inside.pushed c.self.inside.total c.self.inside.flushed c.self.invariant.order
    (omega arith) in
    let full = c.in-Some.ensures.filled.0 in
    record {
      delay = own.delay;
      windows = own.windows;
      total = own.total;
      stored = ap (λ store. store.items) c.pass.ensures.store
          ∙ push-stored _ calls c.args.container.now.value own none (omega (arith, full, pushed, delay));
      pushed = omega (arith, length-append calls.containers (c.args.container.now.value ∷ []), own.pushed);
      flushed = own.flushed;
    }

pub returns-in-Some-clause-cells : goal.returns-in-Some-clause-cells
returns-in-Some-clause-cells c calls stands =
    let own = subst (λ line. DelayStands line calls) (sym c.self.view_is) stands in
    let pushed = ap (λ (line : Line). line.pushed) c.self.view_is in
    let total = ap (λ (line : Line). line.total) c.self.view_is in
    let delay = ap (λ (line : Line). line.delay) c.self.view_is in
    let none = none-flushed c.self.inside.pushed c.self.inside.total c.self.inside.flushed c.self.invariant.order
    (omega arith) in
    let full = c.in-Some.ensures.filled.0 in
    push-cells _ calls c.args.container.now.value c.in-Some.fate _ own none (omega (arith, full, pushed, delay))
    (omega arith)
    (c.in-Some.ensures.filled.1 ∙ ap (λ (line : Line). carried line.windows (line.pushed - line.delay))
    (sym c.self.view_is)) c.pass.ensures.cells
