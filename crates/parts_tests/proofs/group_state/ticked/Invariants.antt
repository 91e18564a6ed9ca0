-- The items stay.
use Rattle.std.proofs.Common.{◌≡◌}
use Rattle.thread_group.specs.Group.{items_of}
use Rattle.parts_tests.proofs.group_state.ticked.Given as goal

abbrev pub invariant-loop : goal.invariant-loop
invariant-loop l = items_of l.group ≡ items_of l.fn.group
