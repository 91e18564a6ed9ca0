-- The sides of a frame that is begun.
use Rattle.std.proofs.Common.{◌+◌, map, take, Some, slice_get, sym, ◌∙◌, ap, arith}
use Rattle.fate_engine.specs.Common.{side_of}
use Rattle.fate_engine.proofs.RulerAndFrameSideLaws.{side-at, side-low}
use Rattle.fate_engine.proofs.fate_core.frame_ruler.Ruler.sides.Goals as goal

pub overflow_add-result-2 : goal.overflow_add-result-2
overflow_add-result-2 c =
    let there = side-at c.self.inside.frames.items c.self.inside.begun c.args.frame c.index.result.now
    c.if-frame-self.false c.self.invariant.within c.index.ensures in
    let low = side-low 0 (map side_of (take c.self.inside.begun c.self.inside.frames.items)) c.self.inside.end
    c.args.frame (side_of c.index.result.now) c.self.invariant.order there in
    omega (arith, low, c.self.invariant.low, c.from.ensures)

pub returns-clause-sides : goal.returns-clause-sides
returns-clause-sides c =
    ap (λ n. Some (c.index.result.now.from, c.index.result.now.from + (8 + n))) c.from.ensures
    ∙ sym (side-at c.self.inside.frames.items c.self.inside.begun c.args.frame c.index.result.now c.if-frame-self.false
    c.self.invariant.within c.index.ensures)
    ∙ ap (λ v. slice_get v.sent c.args.frame) c.self.view_is
