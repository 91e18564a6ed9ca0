-- A burst leaves a worker later; and where it was done, so.
use Rattle.std.proofs.Common.{◌≡◌, inl, inr, ℕ, ◌<◌, List, Option, Some, None, IfNone, sym, subst, ap, length}
use Rattle.std.proofs.Common.{slice_get, arith, ◌↔◌, ◌≤◌}
use Rattle.std.proofs.lemmas.List.{with_items_is}
use Rattle.std.proofs.lemmas.Option.{slice_get_within}
use Rattle.thread_alarms.specs.declared.watched_line.served_line.ServedLine.{ServedLine}
use Rattle.thread_alarms.specs.watched_line.ServedWithPosts.{AreServedLater, IsServedLater, worker_of}
use Rattle.thread_alarms.proofs.LaterServedLineLaws.{served-refl, served-then}
use Rattle.thread_session.specs.session_parts.LineRingsLaid.{IsServedDone, AreServedDone}
use Rattle.thread_session.specs.session_parts.Bursts.{HasTried, AreTried, carries_in}
use Rattle.thread_session.proofs.WorkerShareAndPairListLaws.{zip-refl, zip-set, set-found, below-it, EachBelow}
use Rattle.thread_session.proofs.WorkerShareAndPairListLaws.{each-none, each-next}
use Rattle.thread_session.proofs.CarriesHereLaws.{Rises, carries-rise, rises-next, none-rises}
use Rattle.thread_rings.specs.WorkerOfLine.{carries_of}
use Rattle.thread_session.specs.declared.session_parts.line_thread.Served.TheVariants.{Done, Moved}
use Rattle.thread_session.proofs.session_parts.line_thread.serve_once.Goals as goal

pub loop-worker-init : goal.loop-worker-init
loop-worker-init g c = record {
  later = subst (AreServedLater c.args.workers.now.items) (sym c.deref_mut-worker-items.ensures.value)
      (zip-refl IsServedLater served-refl c.args.workers.now.items);
  done = λ yes m worker low there. absurd (omega (arith, low));
  tried = subst (EachBelow _ 0 c.args.workers.now.items) (sym c.deref_mut-worker-items.ensures.value)
      (each-none _ c.args.workers.now.items);
  rises = subst (λ l. Rises (Done ≡ Moved) (carries_in c.args.workers.now.items) (carries_in l))
      (sym c.deref_mut-worker-items.ensures.value) (none-rises (Done ≡ Moved) _ (λ same. cc));
}

pub loop-worker-preserved : goal.loop-worker-preserved
loop-worker-preserved g c =
    let before = c.loop-worker.invariant in
    let items = c.loop-worker.worker-items in
    let i = c.loop-worker.worker-index in
    let within : i < length items = omega (arith, c.loop-worker-test.true, c.loop-worker.auto.worker-items) in
    record {
      later = zip-set IsServedLater c.args.workers.now.items items i c.worker-item.result c.serve_one.new.worker within
          (λ x later. served-then x _ c.serve_one.new.worker later c.serve_one.ensures.later) before.later;
      done = λ yes m worker low there.
          let both = c.and-served.ensures.done.0 yes in
          elim (set-found items i m c.serve_one.new.worker worker within there) [
            | inl (at, is) ↦ subst IsServedDone (sym is) (c.serve_one.ensures.done both.1)
            | inr (other, is) ↦ before.done both.0 m worker (below-it m i low other) is
          ];
      tried = each-next _ i c.args.workers.now.items items c.worker-item.result c.serve_one.new.worker within
          c.serve_one.ensures.tried before.tried;
      rises = rises-next (λ line. carries_of (worker_of line)) (carries_in c.args.workers.now.items) items i
          c.worker-item.result c.serve_one.new.worker within (carries-rise _ _ c.serve_one.ensures.later.worker)
          before.rises c.serve_one.ensures.moved c.and-served.ensures.moved;
    }

pub returns : goal.returns
returns g c =
    let v = c.args.workers.now in
    let items = c.loop-worker.worker-items in
    let before = c.loop-worker.invariant in
    let size = ap (length {A = ServedLine}) c.deref_mut-worker-items.ensures.value in
    let whole = with_items_is v items (omega (arith, c.loop-worker.auto.worker-items, size, v.ok.0)) in
    record {
      later = subst (AreServedLater v.items) (sym whole) before.later;
      done = λ yes. subst AreServedDone (sym whole)
          (λ m worker there. before.done yes m worker
          (let inside = slice_get_within items m worker there in
          omega (arith, inside, c.loop-worker-test.false, c.loop-worker.auto.worker-items)) there);
      tried = subst (λ l. IfNone c.args.stop (AreTried v.items l)) (sym whole)
          (all-tried c.args.stop v.items items (λ m old new was now. before.tried.each m old new
          (let inside = slice_get_within items m new now in
          omega (arith, inside, c.loop-worker-test.false, c.loop-worker.auto.worker-items)) was now));
      moved = subst (λ l. (c.loop-worker.served ≡ Moved) ↔ (carries_in v.items < carries_in l)) (sym whole)
          before.rises.moved;
      rises = subst (λ l. carries_in v.items ≤ carries_in l) (sym whole) before.rises.low;
    }
  where
    all-tried : {S : Type 0} (stop : Option S) (was now : List ServedLine) →
        ((m : ℕ) (old new : ServedLine) → slice_get was m ≡ Some old → slice_get now m ≡ Some new →
        IfNone stop (HasTried old new)) → IfNone stop (AreTried was now)
    all-tried None was now each = each
    all-tried (Some own) was now each = tt
