-- The first fault of the windows that are left is that of the list.
use Rattle.std.proofs.Common.{◌≡◌, drop}
use Rattle.member_path.specs.failure_window.FaultOfList.{fault_from, window_fault}
use Rattle.member_path.proofs.failure_window.window_fault.first_fault.Given as goal

abbrev pub invariant-loop-i : goal.invariant-loop-i
invariant-loop-i l = fault_from l.i l.end (drop l.i l.list) ≡ window_fault l.list
