-- A window behind the last one keeps the list in order, and takes one place.
use Rattle.std.proofs.Common.{◌≤◌, arith}
use Rattle.law_model.specs.declared.window_types.Window.{Window}
use Rattle.member_path.specs.failure_window.OpenWindows.{last_end}
use Rattle.member_path.proofs.FailureWindowListLaws.{are-append}
use Rattle.member_path.proofs.failure_window.window_list.Windows.open.Goals as goal

pub invariant_of-self : goal.invariant_of-self
invariant_of-self c =
    let window : Window = record { first = c.args.first; end = c.args.total; slip = 0 } in
    let after : last_end c.self.inside.list.items ≤ c.args.first = rw c.self.view_is c.requires.after in
    let some = c.requires.some in
    record {
      apart = rw c.push_reserved.ensures.items
          (are-append 0 c.self.inside.list.items window c.self.invariant.apart after (omega (arith, some)));
      room = rw c.push_reserved.ensures.capacity c.self.invariant.room;
    }
