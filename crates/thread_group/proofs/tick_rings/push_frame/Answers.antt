-- One more line was pushed its container, and the place of that in the frame has another box.
use Rattle.std.proofs.Common.{◌≡◌, [], ◌∷◌, ◌++◌, length, slice_get, slice_set, Some, inl, inr, refl, sym, ◌∙◌, ap}
use Rattle.std.proofs.Common.{subst, arith, option_map, length-set}
use Rattle.std.proofs.lemmas.Bool.{cases_eq}
use Rattle.std.proofs.lemmas.Option.{slice_get_read, slice_get_within, slice_get-map}
use Rattle.std.specs.Global.{Box}
use Rattle.law_model.specs.Common.{Container}
use Rattle.member_cells.specs.HeldPlaces.{held}
use Rattle.member_rows.proofs.RowGatherLinesLaws.{set-here, set-other}
use Rattle.thread_rings.specs.EndsOfRing.{OutEnd, out_passed}
use Rattle.thread_group.specs.GroupRings.{IsPushed}
use Rattle.thread_group.proofs.tick_rings.push_frame.Goals as goal

pub loop-m-preserved : goal.loop-m-preserved
loop-m-preserved c =
    let i = c.loop-m in
    let was = c.index_mut.result.now in
    let is = c.push_place.new.self in
    let box = c.index_mut-in-loop-m.result.now in
    let at = slice_get_read i.tx.items (length i.tx.items) i.m was refl (omega arith) c.index_mut.ensures.value in
    let boxed = slice_get_read i.frame.items (length i.frame.items) i.m box refl (omega arith)
    c.index_mut-in-loop-m.ensures.value in
    let e = c.push_place.ensures in
    record {
      count = length-set i.tx.items i.m is ∙ i.invariant.count;
      places = length-set i.frame.items i.m c.push_place.new.place ∙ i.invariant.places;
      boxes = λ k low. set-other i.frame.items i.m k c.push_place.new.place
          (λ (same : k ≡ i.m). let h : ⊥ = omega arith in h) ∙ i.invariant.boxes k (omega arith);
      each = λ k container old new low frame here there. elim (cases_eq k i.m) [
        | inl same ↦
            let now : new ≡ is = set-here i.tx.items i.m is new
            (sym (ap (slice_get (slice_set i.tx.items i.m is)) same) ∙ there) in
            let first : Some was ≡ Some old = sym at ∙ i.invariant.rest i.m (omega arith)
            ∙ ap (slice_get c.args.tx.now.items) (sym same) ∙ here in
            let before : was ≡ old = cc in
            let lay : Some box.value ≡ Some container =
            ap (option_map (λ (b : Box Container). b.value)) (sym (sym (i.invariant.boxes i.m (omega arith)) ∙ boxed))
            ∙ sym (slice_get-map (λ (b : Box Container). b.value) c.args.frame.now.items i.m)
            ∙ ap (slice_get (held c.args.frame.now.items)) (sym same) ∙ frame in
            let item : box.value ≡ container = cc in
            let pushed : IsPushed container was is =
            record { same = e.same; passed = e.passed ∙ ap (λ x. out_passed was ++ x ∷ []) item; misses = e.quiet } in
            subst (IsPushed container old) (sym now)
            (subst (λ (o : OutEnd Container). IsPushed container o is) before pushed)
        | inr other ↦ i.invariant.each k container old new (omega arith) frame here
            (sym (set-other i.tx.items i.m k is other) ∙ there)
      ];
      rest = λ k low. set-other i.tx.items i.m k is (λ (same : k ≡ i.m). let h : ⊥ = omega arith in h)
          ∙ i.invariant.rest k (omega arith);
    }

pub returns-clause-pushed : goal.returns-clause-pushed
returns-clause-pushed c = record {
  count = c.loop-m.invariant.count;
  each = λ m container old new frame here there.
      let inside = slice_get_within c.args.tx.now.items m old here in
      let count = c.loop-m.invariant.count in
      c.loop-m.invariant.each m container old new (omega arith) frame here there;
}
