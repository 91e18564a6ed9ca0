-- A list without a fault has its windows in order and apart.
use Rattle.std.proofs.Common.{◌∙◌, sym}
use Rattle.member_path.proofs.FailureWindowListLaws.{none-are}
use Rattle.member_path.proofs.failure_window.window_list.Windows.new.Goals as goal

pub invariant_of-result : goal.invariant_of-result
invariant_of-result c = record {
  apart = rw c.in-Ok.ensures.items (none-are 0 0 c.args.list.now (sym c.first_fault.ensures ∙ c.in_default.is));
  room = c.in-Ok.ensures.room;
}
