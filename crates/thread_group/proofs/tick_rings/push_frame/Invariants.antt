-- The lines so far were pushed their containers, and the others are as they were.
use Rattle.std.proofs.Common.{◌≡◌, ℕ, ◌<◌, ◌≤◌, length, slice_get, Some}
use Rattle.law_model.specs.Common.{Container}
use Rattle.member_cells.specs.HeldPlaces.{held}
use Rattle.thread_rings.specs.EndsOfRing.{OutEnd}
use Rattle.thread_group.specs.GroupRings.{IsPushed}
use Rattle.thread_group.proofs.tick_rings.push_frame.Given as goal

abbrev pub invariant-loop-m : goal.invariant-loop-m
invariant-loop-m l = record {
  count : length l.tx.items ≡ length l.fn.tx.items;
  places : length l.frame.items ≡ length l.fn.frame.items;
  boxes : (k : ℕ) → l.m ≤ k → slice_get l.frame.items k ≡ slice_get l.fn.frame.items k;
  each : (k : ℕ) (container : Container) (old new : OutEnd Container) → k < l.m →
      slice_get (held l.fn.frame.items) k ≡ Some container →
      slice_get l.fn.tx.items k ≡ Some old → slice_get l.tx.items k ≡ Some new → IsPushed container old new;
  rest : (k : ℕ) → l.m ≤ k → slice_get l.tx.items k ≡ slice_get l.fn.tx.items k;
}
