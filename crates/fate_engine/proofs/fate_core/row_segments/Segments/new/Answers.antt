-- No row has come.
use Rattle.std.proofs.Common.{◌≡◌, [], refl, sym, subst, arith, List}
use Rattle.fate_engine.specs.declared.fate_law.RowSegment.{RowSegment}
use Rattle.fate_engine.specs.fate_core.Segments.{AreInOrder}
use Rattle.fate_engine.proofs.RowSegmentLookupLaws.{none-kept}
use Rattle.fate_engine.proofs.fate_core.row_segments.Segments.new.Goals as goal

none : (list : List RowSegment) → list ≡ [] → AreInOrder 0 list 0
unfolding AreInOrder
none list is = subst (λ l. AreInOrder 0 l 0) (sym is) (omega arith)

pub invariant_of-result : goal.invariant_of-result
invariant_of-result c = record {
  order = none c.new.result.items c.new.ensures.items;
  last = omega arith;
  rows = refl;
  within = omega arith;
  goes = λ low. refl;
  base = omega arith;
}

pub returns : goal.returns
returns c = none-kept _ refl refl c.new.ensures.items refl refl
