-- None of the windows so far holds the packet.
use Rattle.std.proofs.Common.{◌≡◌, drop}
use Rattle.terminal_group.specs.ReturnInbox.{is_lost_in}
use Rattle.terminal_group.proofs.return_inbox.is_lost.Given as goal

abbrev pub invariant-loop-window : goal.invariant-loop-window
invariant-loop-window l = is_lost_in (drop l.window-index l.lost) l.k ≡ is_lost_in l.lost l.k
