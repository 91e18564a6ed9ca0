-- No frame is accepted.
use Rattle.std.proofs.Common.{◌≡◌, ◌^◌, ◌<◌, [], List, All, sym, subst, arith}
use Rattle.std.proofs.lemmas.List.Elements.{All-nil}
use Rattle.fate_engine.specs.Common.{IsRuler}
use Rattle.fate_engine.specs.declared.fate_core.frame_ruler.Piece.{Piece}
use Rattle.fate_engine.specs.fate_core.FrameSides.{AreInOrder}
use Rattle.fate_engine.proofs.fate_core.frame_ruler.Ruler.new.Goals as goal

none : (frames : List Piece) → frames ≡ [] → IsRuler frames 0 8
unfolding AreInOrder
none frames is = record {
  within = omega arith;
  short = subst (All (λ (p : Piece). p.length < 2 ^ 16)) (sym is) (All-nil (λ (p : Piece). p.length < 2 ^ 16));
  order = omega arith;
  low = omega arith;
}

pub invariant_of-result : goal.invariant_of-result
invariant_of-result c = none c.in_ok-room_for.field-0.items c.in_ok-room_for.ensures.none
