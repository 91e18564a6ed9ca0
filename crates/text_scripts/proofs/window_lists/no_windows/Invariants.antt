-- The lines so far have no windows.
use Rattle.std.proofs.Common.{◌≡◌, [], replicate}
use Rattle.text_scripts.proofs.window_lists.no_windows.Given as goal

abbrev pub invariant-loop : goal.invariant-loop
invariant-loop l = l.lists.items ≡ replicate l.counter []
