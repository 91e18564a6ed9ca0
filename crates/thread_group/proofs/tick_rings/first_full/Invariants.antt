-- A slot of each line so far is free, and the others are as they were.
use Rattle.std.proofs.Common.{◌≡◌, ℕ, ◌<◌, ◌≤◌, slice_get, Some}
use Rattle.law_model.specs.Common.{Container}
use Rattle.thread_rings.specs.EndsOfRing.{OutEnd, out_free}
use Rattle.thread_group.specs.GroupRings.{HaveLooked}
use Rattle.thread_group.proofs.tick_rings.first_full.Given as goal

abbrev pub invariant-loop-m : goal.invariant-loop-m
invariant-loop-m l = record {
  looked : HaveLooked l.fn.tx.items l.tx.items;
  free : (k : ℕ) (out : OutEnd Container) → k < l.m → slice_get l.tx.items k ≡ Some out → 0 < out_free out;
  rest : (k : ℕ) → l.m ≤ k → slice_get l.tx.items k ≡ slice_get l.fn.tx.items k;
}
