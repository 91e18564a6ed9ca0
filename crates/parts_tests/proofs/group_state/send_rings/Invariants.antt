-- So many rings are made, and nothing has passed through them.
use Rattle.std.proofs.Common.{◌≡◌, length}
use Rattle.thread_group.specs.GroupRings.{AreUnused}
use Rattle.parts_tests.proofs.group_state.send_rings.Given as goal

abbrev pub invariant-loop : goal.invariant-loop
invariant-loop l = record { count : length l.tx.items ≡ l.counter; unused : AreUnused l.tx.items }
