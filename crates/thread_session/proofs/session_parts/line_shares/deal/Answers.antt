-- A worker goes to the share of its number.
use Rattle.std.proofs.Common.{◌≡◌, inl, inr, ℕ, suc, ◌+◌, ◌%◌, ◌==◌, ◌<◌, ◌≤◌, List, [], ◌∷◌, ◌++◌, length, vec_len}
use Rattle.std.proofs.Common.{refl, sym, ◌∙◌, ap, subst, arith, rules, length-append, append-nil, vec_capacity, eq-eqb}
use Rattle.std.proofs.Common.{ne_eqb}
use Rattle.std.proofs.lemmas.List.{nil_from_length}
use Rattle.std.proofs.lemmas.Option.{slice_get_read}
use Rattle.std.specs.Global.{Vec}
use Rattle.std.specs.Vec.Iter.{into_iter_items}
use Rattle.thread_alarms.specs.declared.watched_line.served_line.ServedLine.{ServedLine}
use Rattle.thread_alarms.specs.watched_line.ServedWithPosts.{line_of}
use Rattle.thread_session.specs.session_parts.ServedLines.{AreNumbered, share_of}
use Rattle.thread_session.proofs.WorkerShareAndPairListLaws.{dealt-step, set-found}
use Rattle.thread_session.proofs.session_parts.line_shares.deal.Goals as goal

numbered-rest : (from next : ℕ) (first : ServedLine) (rest all : List ServedLine) → all ≡ first ∷ rest →
    next ≡ from + 1 → AreNumbered from all → AreNumbered next rest
numbered-rest from next first rest all is more numbered k worker there =
    let numbers : AreNumbered from (first ∷ rest) = subst (AreNumbered from) is numbered in
    let h = numbers (suc k) worker there in
    omega (arith, h, more)

numbered-first : (from : ℕ) (first : ServedLine) (rest all : List ServedLine) → all ≡ first ∷ rest →
    AreNumbered from all → line_of first ≡ from
numbered-first from first rest all is numbered =
    let numbers : AreNumbered from (first ∷ rest) = subst (AreNumbered from) is numbered in
    let h = numbers 0 first refl in
    omega (arith, h)

pub loop-worker-init : goal.loop-worker-init
loop-worker-init c =
    let gives = c.into_iter-worker-iterator.ensures.into_iter_gives in
    record {
      count = (c.len-count.ensures, refl);
      left = search rules;
      numbers = subst (AreNumbered 0) (sym gives.0) c.requires.numbers;
      room = λ w share there. let room = c.requires.room w share there in
          (omega (arith, ap (length {A = ServedLine}) room.0), room.1);
      dealt = λ w share there.
          ap (λ l. l ++ share_of (vec_len c.args.shares) w (into_iter_items c.into_iter-worker-iterator.result))
          (c.requires.room w share there).0
          ∙ ap (share_of (vec_len c.args.shares) w) gives.0;
    }

pub loop-worker-preserved : goal.loop-worker-preserved
loop-worker-preserved c =
    let before = c.loop-worker.invariant in
    let worker = c.in-Some.worker in
    let rest = into_iter_items c.next.new.self in
    let steps = c.in-Some.ensures.steps in
    let shares = vec_len c.args.shares in
    let same : c.len-count.result ≡ shares = before.count.0 in
    let place = c.loop-worker.line % c.len-count.result in
    let within : place < length c.loop-worker.shares.items =
    omega (arith, before.count.0, before.count.1, c.requires.some, c.loop-worker.shares.ok.0) in
    let number = numbered-first c.loop-worker.line worker rest _ steps.0 before.numbers in
    let own = c.index_mut.result.now in
    let now = c.push_reserved.new.self in
    record {
      count = before.count;
      left = omega (arith, before.left, steps.1);
      numbers = numbered-rest c.loop-worker.line (c.loop-worker.line + 1) worker rest
          (into_iter_items c.loop-worker.worker-iterator) steps.0 refl before.numbers;
      room = λ w share there. elim (set-found c.loop-worker.shares.items place w now share within there) [
        | inl (at, is) ↦
            let room = before.room place own
            (slice_get_read c.loop-worker.shares.items (length c.loop-worker.shares.items) place own refl within
            c.index_mut.ensures.value) in
            let size : length share.items ≡ length own.items + 1 = ap (λ (v : Vec ServedLine). length v.items) is
            ∙ ap length c.push_reserved.ensures.items ∙ length-append own.items (worker ∷ []) in (
              omega (arith, room.0, size),
              subst (λ (v : Vec ServedLine). vec_len c.args.lines ≤ vec_capacity v) (sym is)
                  (omega (arith, room.1, c.push_reserved.ensures.capacity)),
            )
        | inr (other, is) ↦ let room = before.room w share is in (omega (arith, room.0), room.1)
      ];
      dealt = dealt-step (λ (share : Vec ServedLine). share.items) (λ w (one : ServedLine). line_of one % shares == w)
          c.loop-worker.shares.items place own now worker rest c.args.lines.items within c.index_mut.ensures.value
          c.push_reserved.ensures.items
          (eq-eqb (line_of worker % shares) place
          (ap (λ (n : ℕ). n % shares) number ∙ ap (λ (n : ℕ). c.loop-worker.line % n) (sym same)))
          (λ w other. ne_eqb (line_of worker % shares) w
          (λ e. other (sym (sym (ap (λ (n : ℕ). n % shares) number
          ∙ ap (λ (n : ℕ). c.loop-worker.line % n) (sym same)) ∙ e))))
          (λ w share there. ap (λ l. share.items ++ share_of shares w l) (sym steps.0) ∙ before.dealt w share there);
    }

pub returns-clause-dealt : goal.returns-clause-dealt
returns-clause-dealt c = λ w share there.
    let empty = c.in-None.ensures.steps in
    let size : length (into_iter_items c.loop-worker.worker-iterator) ≡ 0 = search rules in
    let none : into_iter_items c.loop-worker.worker-iterator ≡ [] =
    nil_from_length (into_iter_items c.loop-worker.worker-iterator) size in
    sym (append-nil share.items) ∙ ap (λ l. share.items ++ share_of (vec_len c.args.shares) w l) (sym none)
    ∙ c.loop-worker.invariant.dealt w share there
