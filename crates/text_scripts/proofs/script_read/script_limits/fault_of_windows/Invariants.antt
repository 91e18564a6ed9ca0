-- The windows before this one have no fault.
use Rattle.std.proofs.Common.{◌≡◌, drop}
use Rattle.text_scripts.specs.script_read.Script.{windows_fault}
use Rattle.text_scripts.proofs.script_read.script_limits.fault_of_windows.Given as goal

abbrev pub invariant-loop-window : goal.invariant-loop-window
invariant-loop-window l = record {
  value : windows_fault l.m 0 l.fn.list ≡ windows_fault l.m l.i (drop l.window-index l.fn.list);
  count : l.i ≡ l.window-index;
}
