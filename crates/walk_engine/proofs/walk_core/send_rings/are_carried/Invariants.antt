-- The lines so far have carried as much.
use Rattle.std.proofs.Common.{◌≡◌, ℕ, ◌<◌, ◌≤◌, slice_get, Some}
use Rattle.walk_engine.specs.Common.{Ringed}
use Rattle.walk_engine.proofs.walk_core.send_rings.are_carried.Given as goal

abbrev pub invariant-loop-m : goal.invariant-loop-m
invariant-loop-m l = (k : ℕ) (line : Ringed) → slice_get l.lines k ≡ Some line → k < l.m → l.ticks ≤ line.carried
