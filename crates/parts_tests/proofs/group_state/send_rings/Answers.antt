-- One more end through which nothing has passed.
use Rattle.std.proofs.Common.{rules, ◌≡◌, zero, suc, ◌+◌, List, [], ◌∷◌, ◌++◌, length, sym, subst, arith, length-append}
use Rattle.std.proofs.lemmas.Option.{same_Some}
use Rattle.thread_rings.specs.EndsOfRing.{OutEnd, out_passed}
use Rattle.thread_group.specs.GroupRings.{AreUnused}
use Rattle.parts_tests.proofs.group_state.send_rings.Goals as goal

unused-more : {T : Type 0} (ends : List (OutEnd T)) (end : OutEnd T) → AreUnused ends → out_passed end ≡ [] →
    AreUnused (ends ++ end ∷ [])
unused-more [] end none fresh zero out is = subst (λ o. out_passed o ≡ []) (same_Some end out is) fresh
unused-more [] end none fresh (suc m) out is = absurd cc
unused-more (first ∷ ends) end none fresh zero out is = none zero out is
unused-more (first ∷ ends) end none fresh (suc m) out is = unused-more ends end (λ k. none (suc k)) fresh m out is

pub loop-preserved : goal.loop-preserved
loop-preserved c =
    let items : c.push.new.self.items ≡ c.loop.tx.items ++ c.in_ok-end.end ∷ [] = search rules in
    let more = length-append c.loop.tx.items (c.in_ok-end.end ∷ []) in
    record {
      count = let count = c.loop.invariant.count in
          omega (arith, subst (λ xs. length xs ≡ length c.loop.tx.items + 1) (sym items) more, count);
      unused = subst AreUnused (sym items)
          (unused-more c.loop.tx.items c.in_ok-end.end c.loop.invariant.unused (search rules));
    }
