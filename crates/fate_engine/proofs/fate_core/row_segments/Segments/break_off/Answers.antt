-- The segments stay in order.
use Rattle.std.proofs.Common.{◌≡◌, ◌+◌, ◌&&◌, true, nat_lt, [], ◌∷◌, ◌++◌, refl, sym, ◌∙◌, ap, subst, arith, ltb-true}
use Rattle.law_loss.proofs.GivenAndLostFrameLaws.{and_right}
use Rattle.fate_engine.specs.fate_core.Segments.{AreInOrder}
use Rattle.fate_engine.proofs.RowSegmentLookupLaws.{order-push, order-more}
use Rattle.fate_engine.proofs.fate_core.row_segments.Segments.break_off.Goals as goal
use Rattle.fate_engine.proofs.fate_core.row_segments.Segments.break_off.Goals.{then-is_told+in_ok-push, else-is_told}

pub invariant_of-self-2 : goal.invariant_of-self-2
invariant_of-self-2 c =
    elim c.if-is_told.branch [
      | then-is_told+in_ok-push w ↦ (
          let told : nat_lt c.self.inside.last.first c.self.inside.last.end ≡ true =
          and_right (nat_lt c.self.inside.first c.self.inside.last.first)
          (nat_lt c.self.inside.last.first c.self.inside.last.end)
          (ap (λ v. nat_lt v.first v.last.first && nat_lt v.last.first v.last.end) c.self.view_is
          ∙ sym c.is_told.ensures ∙ w.if-is_told.true) in
          let some = ltb-true c.self.inside.last.first c.self.inside.last.end told in
          let rows = c.self.invariant.rows in
          let within = c.self.invariant.within in
          let order = c.self.invariant.order in
          let same = ap (λ s. s.rows) w.self-inside-is in
          let first = ap (λ s. s.first) w.self-inside-is in
          let ended : c.if-is_told.self-inside.ended.items ≡ c.self.inside.ended.items ++ c.self.inside.last ∷ [] =
          ap (λ s. s.ended.items) w.self-inside-is ∙ w.in_ok-push.ensures.items in
          record {
            order = subst (λ l. AreInOrder 0 l (c.if-is_told.self-inside.rows + 1)) (sym ended)
                (order-push 0 c.self.inside.ended.items c.self.inside.last.first
                (c.if-is_told.self-inside.rows + 1) c.self.inside.last order refl some (omega (arith, rows, same)));
            last = omega arith;
            rows = refl;
            within = omega (arith, within, same, first);
            goes = λ low. absurd (omega (arith, low, within, same, first));
            base = c.requires.end;
          })
      | else-is_told w ↦ (
          let rows = c.self.invariant.rows in
          let within = c.self.invariant.within in
          let last = c.self.invariant.last in
          let same = ap (λ s. s.rows) w.self-inside-is in
          let first = ap (λ s. s.first) w.self-inside-is in
          let ended : c.if-is_told.self-inside.ended.items ≡ c.self.inside.ended.items =
          ap (λ s. s.ended.items) w.self-inside-is in
          record {
            order = subst (λ l. AreInOrder 0 l (c.if-is_told.self-inside.rows + 1)) (sym ended)
                (order-more 0 c.self.inside.ended.items c.self.inside.last.first
                (c.if-is_told.self-inside.rows + 1) c.self.invariant.order (omega (arith, rows, last, same)));
            last = omega arith;
            rows = refl;
            within = omega (arith, within, same, first);
            goes = λ low. absurd (omega (arith, low, within, same, first));
            base = c.requires.end;
          })
    ]
