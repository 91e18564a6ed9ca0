-- The first of the shares that are still held is taken back.
use Rattle.std.proofs.Common.{◌≡◌, ◌+◌, ◌<◌, suc, slice_get, List, [], ◌∷◌, ◌++◌, length, vec_len, Some, refl, sym}
use Rattle.std.proofs.Common.{◌∙◌, ap, subst, arith, rules, append_assoc}
use Rattle.std.proofs.lemmas.List.{append-nil, nil_from_length}
use Rattle.std.proofs.lemmas.Option.{slice_get_read}
use Rattle.std.specs.Global.{Vec}
use Rattle.std.specs.Vec.Iter.{into_iter_items}
use Rattle.thread_alarms.specs.declared.watched_line.served_line.ServedLine.{ServedLine}
use Rattle.thread_session.specs.declared.session_parts.line_thread.Held.{Held}
use Rattle.thread_session.specs.session_parts.ServedLines.{SharesLater}
use Rattle.thread_session.specs.session_parts.HeldShares.{IsHeldOf, IsToldBy, AreHeldOf}
use Rattle.thread_session.proofs.WorkerShareAndPairListLaws.{zip-first, zip-none}
use Rattle.thread_session.proofs.session_parts.line_thread.take_all_back.Goals as goal

pub take_back-requires : goal.take_back-requires
take_back-requires g c =
    let before = c.loop-share.invariant in
    let steps = c.in-Some.ensures.steps in
    let flags = c.args.flags.now in
    let flag = c.index-flags-len.result in
    let low : c.len.result < length flags = omega (arith, before.count, steps.1, c.len.ensures, c.requires.flags) in
    let at : slice_get flags c.len.result ≡ Some flag =
    slice_get_read flags (length flags) c.len.result flag refl low c.index-flags-len.is in
    let place : vec_len c.loop-share.shares + 0 ≡ c.len.result = omega (arith, c.len.ensures) in
    subst (λ n. IsToldBy n c.in-Some.share) (sym c.store-stored.ensures)
    (before.told 0 flag c.in-Some.share (ap (slice_get flags) place ∙ at) (ap (λ l. slice_get l 0) steps.0))

pub loop-share-preserved : goal.loop-share-preserved
loop-share-preserved g c =
    let before = c.loop-share.invariant in
    let steps = c.in-Some.ensures.steps in
    let taken = c.take_back.result in
    let left = into_iter_items c.next.new.self in
    let old = c.loop-share.shares.items in
    record {
      count = omega (arith, before.count, steps.1, c.push_reserved.ensures.len);
      room = c.push_reserved.ensures.capacity ∙ before.room;
      told = λ k flag one at there.
          before.told (suc k) flag one (ap (slice_get c.args.flags.now) (omega (arith, c.push_reserved.ensures.len))
          ∙ at) (ap (λ l. slice_get l (suc k)) steps.0 ∙ there);
      each = λ given held.
          let (rest, holds, grows) = before.each given held in
          let (share, others, is, one, all) =
          zip-first (λ (share : Vec ServedLine) (one : Held). IsHeldOf share.items one) rest c.in-Some.share
          left (subst (AreHeldOf rest) steps.0 holds) in (
            others,
            all,
            λ (future : List (Vec ServedLine)) later.
                subst (SharesLater given) (sym (ap (λ l. l ++ future) c.push_reserved.ensures.items
                ∙ append_assoc old (taken ∷ []) future))
                (grows (taken ∷ future) (subst (λ l. SharesLater l (taken ∷ future)) (sym is)
                (c.take_back.ensures share.items one, later))),
          );
    }

pub returns : goal.returns
returns g c = λ given held.
    let size : length (into_iter_items c.loop-share.share-iterator) ≡ 0 = search rules in
    let none = nil_from_length (into_iter_items c.loop-share.share-iterator) size in
    let (rest, holds, grows) = c.loop-share.invariant.each given held in
    let over = zip-none (λ (share : Vec ServedLine) (one : Held). IsHeldOf share.items one) rest
    (subst (AreHeldOf rest) none holds) in
    subst (SharesLater given) (append-nil c.loop-share.shares.items)
    (grows [] (subst (λ l. SharesLater l []) (sym over) tt))
