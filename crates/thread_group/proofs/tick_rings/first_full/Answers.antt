-- One more line was looked at.
use Rattle.std.proofs.Common.{◌≡◌, ◌<◌, length, slice_get, slice_set, inl, inr, refl, sym, ◌∙◌, ap, subst, arith}
use Rattle.std.proofs.lemmas.Bool.{cases_eq}
use Rattle.std.proofs.lemmas.Option.{slice_get_read, slice_get_within}
use Rattle.law_model.specs.Common.{Container}
use Rattle.member_rows.proofs.RowGatherLinesLaws.{set-here, set-other}
use Rattle.thread_rings.specs.EndsOfRing.{OutEnd, out_free}
use Rattle.thread_group.proofs.GroupRingEndLookLaws.{set-there, has-looked, looked-set}
use Rattle.thread_group.proofs.tick_rings.first_full.Goals as goal

pub returns-then-not-ready : goal.returns-then-not-ready
returns-then-not-ready c =
    let i = c.loop-m in
    let at = slice_get_read i.tx.items (length i.tx.items) i.m c.index_mut.result.now refl
    (omega arith) c.index_mut.ensures.value in
    let e = c.ready.ensures in
    record {
      looked = looked-set c.args.tx.now.items i.tx.items i.m c.index_mut.result.now c.ready.new.self
          (sym (i.invariant.rest i.m (omega arith)) ∙ at)
          (has-looked c.index_mut.result.now c.ready.new.self c.ready.result e.same e.passed e.kept e.counted e.quiet)
          i.invariant.looked;
      full = record {
        before = λ k out low there. i.invariant.free k out low
            (sym (set-other i.tx.items i.m k c.ready.new.self (λ (same : k ≡ i.m). let h : ⊥ = omega arith in h))
            ∙ there);
        was = c.index_mut.result.now;
        is = c.ready.new.self;
        old = sym (i.invariant.rest i.m (omega arith)) ∙ at;
        new = set-there i.tx.items i.m c.ready.new.self c.index_mut.result.now at;
        none = e.missed c.if-not-ready.true;
        missed = e.counted c.if-not-ready.true;
      };
    }

pub loop-m-preserved : goal.loop-m-preserved
loop-m-preserved c =
    let i = c.loop-m in
    let at = slice_get_read i.tx.items (length i.tx.items) i.m c.index_mut.result.now refl
    (omega arith) c.index_mut.ensures.value in
    let e = c.ready.ensures in
    record {
      looked = looked-set c.args.tx.now.items i.tx.items i.m c.index_mut.result.now c.ready.new.self
          (sym (i.invariant.rest i.m (omega arith)) ∙ at)
          (has-looked c.index_mut.result.now c.ready.new.self c.ready.result e.same e.passed e.kept e.counted e.quiet)
          i.invariant.looked;
      free = λ k out low there. elim (cases_eq k i.m) [
        | inl same ↦
            let now : out ≡ c.ready.new.self =
            set-here i.tx.items i.m c.ready.new.self out
            (sym (ap (slice_get (slice_set i.tx.items i.m c.ready.new.self)) same) ∙ there) in
            subst (λ (o : OutEnd Container). 0 < out_free o) (sym now) (e.known.0 c.if-not-ready.false)
        | inr other ↦ i.invariant.free k out (omega arith)
            (sym (set-other i.tx.items i.m k c.ready.new.self other) ∙ there)
      ];
      rest = λ k low. set-other i.tx.items i.m k c.ready.new.self (λ (same : k ≡ i.m). let h : ⊥ = omega arith in h)
          ∙ i.invariant.rest k (omega arith);
    }

pub returns-clause-full : goal.returns-clause-full
returns-clause-full c =
    λ m out there.
    let inside = slice_get_within c.loop-m.tx.items m out there in
    let count = c.loop-m.invariant.looked.count in
    c.loop-m.invariant.free m out (omega arith) there
