-- The frame that waits longest begins where the pieces end.
use Rattle.std.proofs.Common.{◌+◌, ◌^◌, ◌<◌, length, slice_set, refl, sym, subst}
use Rattle.fate_engine.specs.Common.{IsRuler}
use Rattle.fate_engine.specs.declared.fate_core.frame_ruler.Piece.{Piece}
use Rattle.fate_engine.proofs.RulerAndFrameSideLaws.{waits-some, begins}
use Rattle.fate_engine.proofs.fate_core.frame_ruler.Ruler.begin.Goals as goal

pub invariant_of-self : goal.invariant_of-self
invariant_of-self c =
    let low : c.self.inside.begun < length c.self.inside.frames.items =
    waits-some c.self.inside.frames.items c.self.inside.begun c.self.inside.end
    (subst (λ v. 0 < length v.waiting) (sym c.self.view_is) c.requires.some) in
    let piece : Piece = record { from = c.self.inside.end; length = c.index.result.now.length } in
    let short : c.index.result.now.length < 2 ^ 16 =
    subst (λ (p : Piece). p.length < 2 ^ 16) (sym c.index.ensures)
    (c.self.invariant.short c.self.inside.begun c.index.result.now low) in
    subst (λ n. IsRuler (slice_set c.self.inside.frames.items c.self.inside.begun piece) (c.self.inside.begun + 1)
    (c.self.inside.end + (8 + n))) (sym c.from.ensures)
    (begins c.self.inside.frames.items c.self.inside.begun c.self.inside.end piece c.self.invariant low
    (subst (λ v. v.end < 2 ^ 63) (sym c.self.view_is) c.requires.low) refl short)
