-- A worker that was done before its burst is as it was.
use Rattle.std.proofs.Common.{◌≡◌, inl, inr, ◌<◌, Bool, true, false, Some, get_or, slice_get, length, sym, ◌∙◌, subst}
use Rattle.std.proofs.Common.{ap, arith, Contains, set}
use Rattle.std.proofs.lemmas.Bool.{cases_Bool}
use Rattle.std.proofs.lemmas.List.{with_items_is}
use Rattle.std.proofs.lemmas.Option.{slice_get_within, slice_get-get_or}
use Rattle.law_model.specs.Common.{End}
use Rattle.thread_alarms.specs.declared.watched_line.served_line.ServedLine.{ServedLine}
use Rattle.thread_rings.specs.EndsOfRing.{out_passed}
use Rattle.thread_alarms.specs.watched_line.ServedWithPosts.{worker_of, AreServedLater, IsServedLater}
use Rattle.thread_alarms.proofs.LaterServedLineLaws.{served-refl, served-then}
use Rattle.thread_session.specs.session_parts.LineRingsLaid.{AreServedDone}
use Rattle.thread_session.proofs.WorkerShareAndPairListLaws.{zip-refl, zip-set, set-found, set-same, below-it}
use Rattle.thread_session.proofs.session_parts.lay_ring_ends.carry_all.Goals as goal
use Rattle.thread_session.proofs.session_parts.lay_ring_ends.carry_all.Goals.{then-not-carry_one, else-not-carry_one}

pub loop-worker-init : goal.loop-worker-init
loop-worker-init g c = record {
  later = subst (AreServedLater c.args.workers.now.items) (sym c.deref_mut-worker-items.ensures.value)
      (zip-refl IsServedLater served-refl c.args.workers.now.items);
  done = λ yes m worker low there. absurd (omega (arith, low));
  same = λ yes. c.deref_mut-worker-items.ensures.value;
  left = λ no. absurd cc;
  rest = λ m worker low there. subst (λ l. slice_get l m ≡ Some worker) c.deref_mut-worker-items.ensures.value there;
}

pub loop-worker-preserved : goal.loop-worker-preserved
loop-worker-preserved g c =
    let before = c.loop-worker.invariant in
    let items = c.loop-worker.worker-items in
    let i = c.loop-worker.worker-index in
    let was : ServedLine = get_or items i c.worker-item.result in
    let within : i < length items = omega (arith, c.loop-worker-test.true, c.loop-worker.auto.worker-items) in
    let there : slice_get items i ≡ Some was = slice_get-get_or items i c.worker-item.result within in
    record {
      later = zip-set IsServedLater c.args.workers.now.items items i c.worker-item.result c.carry_one.new.worker
          within (λ x later. served-then x _ c.carry_one.new.worker later c.carry_one.ensures.later) before.later;
      done = elim c.if-not-carry_one.branch [
        | then-not-carry_one w ↦ λ yes. absurd (let no' = w.done-is in cc)
        | else-not-carry_one w ↦ λ yes m worker low found.
            elim (set-found items i m c.carry_one.new.worker worker within found) [
              | inl (at, is) ↦ subst (λ (one : ServedLine). Contains (out_passed (worker_of one).producer) End)
                  (sym (is ∙ c.carry_one.ensures.stays w.if-not-carry_one.false))
                  (c.carry_one.ensures.done.0 w.if-not-carry_one.false)
              | inr (other, is) ↦ before.done (sym w.done-is ∙ yes) m worker (below-it m i low other) is
            ]
      ];
      same = elim c.if-not-carry_one.branch [
        | then-not-carry_one w ↦ λ yes. absurd (let no' = w.done-is in cc)
        | else-not-carry_one w ↦ λ yes.
            ap (set items i) (c.carry_one.ensures.stays w.if-not-carry_one.false)
            ∙ set-same items i c.worker-item.result within ∙ before.same (sym w.done-is ∙ yes)
      ];
      left = elim c.if-not-carry_one.branch [
        | then-not-carry_one w ↦ λ no all.
            let has = all i was (before.rest i was (omega arith) there) in
            let yes = c.carry_one.ensures.done.1 has in
            let none = w.if-not-carry_one.true in
            absurd cc
        | else-not-carry_one w ↦ λ no. before.left (sym w.done-is ∙ no)
      ];
      rest = λ m worker low found.
          elim (set-found items i m c.carry_one.new.worker worker within found) [
            | inl (at, is) ↦ absurd (omega arith)
            | inr (other, is) ↦ before.rest m worker (omega arith) is
          ];
    }

pub returns : goal.returns
returns g c =
    let v = c.args.workers.now in
    let items = c.loop-worker.worker-items in
    let before = c.loop-worker.invariant in
    let size = ap (length {A = ServedLine}) c.deref_mut-worker-items.ensures.value in
    let whole = with_items_is v items (omega (arith, c.loop-worker.auto.worker-items, size, v.ok.0)) in
    record {
      later = subst (AreServedLater v.items) (sym whole) before.later;
      done = (
        λ yes. subst AreServedDone (before.same yes)
            (λ m worker there. before.done yes m worker
            (let inside = slice_get_within items m worker there in
            omega (arith, inside, c.loop-worker-test.false, c.loop-worker.auto.worker-items)) there),
        λ all. by_done c.loop-worker.done (λ no. before.left no all),
      );
      stays = λ yes. whole ∙ before.same yes;
    }
  where
    by_done : (done : Bool) → (done ≡ false → ⊥) → done ≡ true
    by_done done other = elim (cases_Bool done) [ inl is ↦ is | inr isnt ↦ absurd (other isnt) ]
