-- The sums so far, and those of the windows that are left.
use Rattle.std.proofs.Common.{◌≡◌, ◌≤◌, max, drop}
use Rattle.law_model.specs.Common.{AreWindows, slip_after, slip_of}
use Rattle.member_path.proofs.failure_window.window_list.greatest_slip.Given as goal

abbrev pub invariant-loop-window : goal.invariant-loop-window
invariant-loop-window l = record {
  apart : AreWindows l.end (drop l.window-index l.list);
  within : l.run ≤ l.end;
  most : l.run ≤ l.most;
  slip : max l.most (slip_after l.run l.end (drop l.window-index l.list)) ≡ slip_of l.list;
}
