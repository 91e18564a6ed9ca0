-- The lines before this one have no fault.
use Rattle.std.proofs.Common.{◌≡◌, drop}
use Rattle.text_scripts.specs.script_read.Script.{slip_fault}
use Rattle.text_scripts.proofs.script_read.script_limits.fault_of_slips.Given as goal

abbrev pub invariant-loop-list : goal.invariant-loop-list
invariant-loop-list l = record {
  value : slip_fault 0 l.fn.lists ≡ slip_fault l.m (drop l.list-index l.fn.lists);
  count : l.m ≡ l.list-index;
}
