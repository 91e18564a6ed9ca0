-- Each worker is later than it was, or as it was; and where all were done so far, those before the next are.
-- A burst was made of those before the next, where no flag stops it; and how many carries they have added.
use Rattle.std.proofs.Common.{◌≡◌, ℕ, ◌<◌, slice_get, Some, IfNone}
use Rattle.thread_alarms.specs.declared.watched_line.served_line.ServedLine.{ServedLine}
use Rattle.thread_alarms.specs.watched_line.ServedWithPosts.{AreServedLater}
use Rattle.thread_session.specs.session_parts.LineRingsLaid.{IsServedDone}
use Rattle.thread_session.specs.declared.session_parts.line_thread.Served.TheVariants.{Done, Moved}
use Rattle.thread_session.specs.session_parts.Bursts.{HasTried, carries_in}
use Rattle.thread_session.proofs.WorkerShareAndPairListLaws.{EachBelow}
use Rattle.thread_session.proofs.CarriesHereLaws.{Rises}
use Rattle.thread_session.proofs.session_parts.line_thread.serve_once.Given as goal

abbrev pub invariant-loop-worker : goal.invariant-loop-worker
invariant-loop-worker g l = record {
  later : AreServedLater l.fn.workers.items l.worker-items;
  done : l.served ≡ Done → (m : ℕ) (worker : ServedLine) → m < l.worker-index →
      slice_get l.worker-items m ≡ Some worker → IsServedDone worker;
  tried : EachBelow (λ was now. IfNone l.stop (HasTried was now)) l.worker-index l.fn.workers.items l.worker-items;
  rises : Rises (l.served ≡ Moved) (carries_in l.fn.workers.items) (carries_in l.worker-items);
}
