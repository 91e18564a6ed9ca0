-- What lies below the container is left of the last window, behind those that stood before it.
use Rattle.std.proofs.Common.{ap, subst, arith, ◌∙◌}
use Rattle.law_model.specs.Common.{AreWindows}
use Rattle.law_model.specs.declared.window_types.Window.{Window}
use Rattle.member_path.specs.failure_window.OpenWindows.{closed_at}
use Rattle.member_path.proofs.FailureWindowListLaws.{are-append, are-front, closed-none, closed-some}
use Rattle.member_path.proofs.failure_window.window_list.Windows.close.Goals as goal

pub invariant_of-self : goal.invariant_of-self
invariant_of-self c =
    let left : Window = record { first = c.in-Some.field-0.first; end = c.args.end; slip = 0 } in
    let some = c.if-first-end.true in
    let front = are-front 0 c.pop.new.self.items c.in-Some.field-0
    (subst (λ l. AreWindows 0 l) c.in-Some.ensures.items c.self.invariant.apart) in
    record {
      apart = rw c.push_reserved.ensures.items
          (are-append 0 c.pop.new.self.items left front.0 front.1 (omega (arith, some)));
      room = rw (c.push_reserved.ensures.capacity, c.pop.ensures.capacity) c.self.invariant.room;
    }

pub invariant_of-self-else-first-end : goal.invariant_of-self-else-first-end
invariant_of-self-else-first-end c =
    let front = are-front 0 c.pop.new.self.items c.in-Some.field-0
    (subst (λ l. AreWindows 0 l) c.in-Some.ensures.items c.self.invariant.apart) in
    record { apart = front.0; room = rw c.pop.ensures.capacity c.self.invariant.room }

pub returns-then-first-end : goal.returns-then-first-end
returns-then-first-end c =
    c.push_reserved.ensures.items
    ∙ closed-some c.self.inside.list.items c.pop.new.self.items c.in-Some.field-0 c.args.end c.in-Some.ensures.items
    c.if-first-end.true
    ∙ ap (λ l. closed_at l c.args.end) c.self.view_is

pub returns-else-first-end : goal.returns-else-first-end
returns-else-first-end c =
    closed-none c.self.inside.list.items c.pop.new.self.items c.in-Some.field-0 c.args.end c.in-Some.ensures.items
    c.if-first-end.false
    ∙ ap (λ l. closed_at l c.args.end) c.self.view_is
