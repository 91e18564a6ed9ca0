-- The workers are later. As long as none was left, those before the next had come to their end and nothing has changed;
-- else one of them hadn't.
-- Those from the next on are as they were.
use Rattle.std.proofs.Common.{◌≡◌, ℕ, ◌<◌, ◌≤◌, true, false, slice_get, Some, Contains}
use Rattle.law_model.specs.Common.{End}
use Rattle.thread_alarms.specs.declared.watched_line.served_line.ServedLine.{ServedLine}
use Rattle.thread_rings.specs.EndsOfRing.{out_passed}
use Rattle.thread_alarms.specs.watched_line.ServedWithPosts.{worker_of, AreServedLater}
use Rattle.thread_session.specs.session_parts.LineRingsLaid.{AreServedDone}
use Rattle.thread_session.proofs.session_parts.lay_ring_ends.carry_all.Given as goal

abbrev pub invariant-loop-worker : goal.invariant-loop-worker
invariant-loop-worker g l = record {
  later : AreServedLater l.fn.workers.items l.worker-items;
  done : l.done ≡ true → (m : ℕ) (worker : ServedLine) → m < l.worker-index → slice_get l.worker-items m ≡ Some worker →
      Contains (out_passed (worker_of worker).producer) End;
  same : l.done ≡ true → l.worker-items ≡ l.fn.workers.items;
  left : l.done ≡ false → AreServedDone l.fn.workers.items → ⊥;
  rest : (m : ℕ) (worker : ServedLine) → l.worker-index ≤ m → slice_get l.worker-items m ≡ Some worker →
      slice_get l.fn.workers.items m ≡ Some worker;
}
