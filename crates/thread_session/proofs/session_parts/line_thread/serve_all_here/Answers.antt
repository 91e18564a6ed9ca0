-- One after the other is served where it is here.
use Rattle.std.proofs.Common.{◌≡◌, ◌↔◌, ◌<◌, sym, subst, ap, length, arith, true, false}
use Rattle.std.proofs.lemmas.List.{with_items_is}
use Rattle.std.proofs.lemmas.Option.{slice_get_within}
use Rattle.std.specs.Global.{Vec}
use Rattle.thread_alarms.specs.declared.watched_line.served_line.ServedLine.{ServedLine}
use Rattle.thread_session.specs.declared.session_parts.line_thread.Held.{Held}
use Rattle.thread_session.specs.session_parts.HeldShares.{IsHeldOf, AreHeldOf, AreToldBy}
use Rattle.thread_session.specs.session_parts.Bursts.{IsTriedHere, AreTriedHere, carries_here, all_carries_here}
use Rattle.thread_session.proofs.CarriesHereLaws.{Rises, rises-next, none-rises, or-either}
use Rattle.thread_session.proofs.WorkerShareAndPairListLaws.{zip-set, told-set, EachBelow, each-none, each-next}
use Rattle.thread_session.proofs.session_parts.line_thread.serve_all_here.Goals as goal

pub loop-share-init : goal.loop-share-init
loop-share-init g c = record {
  held = λ shares held. subst (AreHeldOf shares) (sym c.deref_mut-share-items.ensures.value) held;
  told = λ flags told. subst (AreToldBy flags) (sym c.deref_mut-share-items.ensures.value) told;
  tried = subst (EachBelow IsTriedHere 0 c.args.held.now.items) (sym c.deref_mut-share-items.ensures.value)
      (each-none IsTriedHere c.args.held.now.items);
  rises = subst (λ l. Rises (false ≡ true) (all_carries_here c.args.held.now.items) (all_carries_here l))
      (sym c.deref_mut-share-items.ensures.value) (none-rises (false ≡ true) _ (λ same. cc));
}

pub loop-share-preserved : goal.loop-share-preserved
loop-share-preserved g c = record {
  held = λ shares held.
      zip-set (λ (share : Vec ServedLine) (one : Held). IsHeldOf share.items one) shares c.loop-share.share-items
      c.loop-share.share-index c.share-item.result c.serve_here-moved.new.held
      (omega (arith, c.loop-share-test.true, c.loop-share.auto.share-items))
      (λ share one. c.serve_here-moved.ensures.held share.items one) (c.loop-share.invariant.held shares held);
  told = λ flags told.
      told-set flags c.loop-share.share-items c.loop-share.share-index c.share-item.result c.serve_here-moved.new.held
      (omega (arith, c.loop-share-test.true, c.loop-share.auto.share-items)) c.serve_here-moved.ensures.told
      (c.loop-share.invariant.told flags told);
  tried = each-next IsTriedHere c.loop-share.share-index c.args.held.now.items _ c.share-item.result
      c.serve_here-moved.new.held (omega (arith, c.loop-share-test.true, c.loop-share.auto.share-items))
      c.serve_here-moved.ensures.tried c.loop-share.invariant.tried;
  rises = rises-next carries_here (all_carries_here c.args.held.now.items) c.loop-share.share-items
      c.loop-share.share-index c.share-item.result c.serve_here-moved.new.held
      (omega (arith, c.loop-share-test.true, c.loop-share.auto.share-items)) c.serve_here-moved.ensures.rises
      c.loop-share.invariant.rises c.serve_here-moved.ensures.moved (or-either c.loop-share.moved c.serve_here-moved.result);
}

pub returns : goal.returns
returns g c =
    let v = c.args.held.now in
    let items = c.loop-share.share-items in
    let size = ap (length {A = Held}) c.deref_mut-share-items.ensures.value in
    let whole = with_items_is v items (omega (arith, c.loop-share.auto.share-items, size, v.ok.0)) in
    record {
      held = λ shares held. subst (AreHeldOf shares) (sym whole) (c.loop-share.invariant.held shares held);
      told = λ flags told. subst (AreToldBy flags) (sym whole) (c.loop-share.invariant.told flags told);
      tried = subst (AreTriedHere c.args.held.now.items) (sym whole)
          (λ w old new was now. c.loop-share.invariant.tried.each w old new
          (let inside = slice_get_within items w new now in
          omega (arith, inside, c.loop-share-test.false, c.loop-share.auto.share-items)) was now);
      moved = subst (λ l. (c.loop-share.moved ≡ true) ↔ (all_carries_here v.items < all_carries_here l)) (sym whole)
          c.loop-share.invariant.rises.moved;
    }
