-- One more share is started, by the flag of its place; and nothing is left to be held.
use Rattle.std.proofs.Common.{◌≡◌, ◌<◌, [], ◌∷◌, ◌++◌, length, slice_get, Some, refl, sym, ◌∙◌, ap, subst, arith}
use Rattle.std.proofs.Common.{rules, append_assoc}
use Rattle.std.proofs.lemmas.List.{append-nil, nil_from_length}
use Rattle.std.proofs.lemmas.Option.{slice_get_read}
use Rattle.std.specs.Vec.Iter.{into_iter_items}
use Rattle.thread_session.specs.session_parts.HeldShares.{AreHeldOf, AreToldBy}
use Rattle.thread_session.proofs.WorkerShareAndPairListLaws.{told-push}
use Rattle.thread_session.proofs.session_parts.line_thread.start_shares.Goals as goal

pub loop-workers-preserved : goal.loop-workers-preserved
loop-workers-preserved g c =
    let before = c.loop-workers.invariant in
    let steps = c.in-Some.ensures.steps in
    let flags = c.args.flags.now in
    let old = c.loop-workers.held.items in
    let one = c.start_share.result in
    let flag = c.index-flags-len.result in
    let size : c.len.result ≡ length old = omega (arith, c.len.ensures, c.loop-workers.held.ok.0) in
    let low : c.len.result < length flags = omega (arith, before.count, steps.1, c.len.ensures, c.requires.flags) in
    let at : slice_get flags c.len.result ≡ Some flag =
    slice_get_read flags (length flags) c.len.result flag refl low c.index-flags-len.is in
    record {
      count = omega (arith, before.count, steps.1, c.push_reserved.ensures.len);
      room = c.push_reserved.ensures.capacity ∙ before.room;
      told = subst (AreToldBy flags) (sym c.push_reserved.ensures.items)
          (told-push flags old flag one (ap (slice_get flags) (sym size) ∙ at) c.start_share.ensures.told before.told);
      each = λ future held.
          subst (AreHeldOf c.args.shares.items)
          (sym (ap (λ l. l ++ future) c.push_reserved.ensures.items ∙ append_assoc old (one ∷ []) future))
          (before.each (one ∷ future) (subst (λ l. AreHeldOf l (one ∷ future)) (sym steps.0)
          (c.start_share.ensures.held, held)));
    }

pub returns-clause-held : goal.returns-clause-held
returns-clause-held g c =
    let size : length (into_iter_items c.loop-workers.workers-iterator) ≡ 0 = search rules in
    let none = nil_from_length (into_iter_items c.loop-workers.workers-iterator) size in
    let empty = c.in-None.ensures.steps in
    subst (AreHeldOf c.args.shares.items) (append-nil c.loop-workers.held.items)
    (c.loop-workers.invariant.each [] (subst (λ l. AreHeldOf l []) (sym none) tt))

pub returns-clause-told : goal.returns-clause-told
returns-clause-told g c = c.loop-workers.invariant.told
