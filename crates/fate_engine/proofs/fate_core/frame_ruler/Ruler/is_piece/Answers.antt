-- By the last frame that begins at the place or before.
use Rattle.std.proofs.Common.{◌≡◌, ℕ, zero, suc, ◌-◌, ◌<◌, ◌≤◌, List, [], ◌∷◌, length, map, take, Some, None}
use Rattle.std.proofs.Common.{slice_get, sym, ◌∙◌, ap, subst, arith}
use Rattle.fate_engine.specs.fate_core.FrameSides.{AreInOrder}
use Rattle.fate_engine.specs.Common.{side_of}
use Rattle.fate_engine.proofs.RulerAndFrameSideLaws.{piece_in, piece-by, piece-late, piece-none, piece-found}
use Rattle.fate_engine.proofs.fate_core.frame_ruler.Ruler.is_piece.Goals as goal

pub returns-then-place-self : goal.returns-then-place-self
returns-then-place-self c = λ stream is.
    sym (piece-by stream c.args.place ∙ ap (λ v. piece_in 0 v.sent v.end c.args.place) (sym is ∙ sym c.self.view_is)
    ∙ piece-late 0 (map side_of (take c.self.inside.begun c.self.inside.frames.items)) c.self.inside.end c.args.place
    c.self.invariant.order c.if-place-self.true)

pub returns-then-begun-eq0 : goal.returns-then-begun-eq0
returns-then-begun-eq0 c = λ stream is.
    let low = subst (λ v. c.args.place < v.end) c.self.view_is c.if-place-self.false in
    c.is_idle.ensures
    ∙ sym (piece-by stream c.args.place ∙ ap (λ v. piece_in 0 v.sent v.end c.args.place) (sym is)
    ∙ piece-none 0 c.args.self.now.sent c.args.self.now.end c.args.place low
    (λ k d from within. c.begun_by-begun.ensures.above k d (omega (arith, c.if-begun-eq0.true)) within))

pub returns-in-Some : goal.returns-in-Some
returns-in-Some c = λ stream is.
    let low = subst (λ v. c.args.place < v.end) c.self.view_is c.if-place-self.false in
    let are = subst (λ v. AreInOrder 0 v.sent v.end) c.self.view_is c.self.invariant.order in
    let i = c.begun_by-begun.result in
    let some : 1 ≤ i = (let isnt = c.if-begun-eq0.false in omega (arith, isnt)) in
    let there : slice_get c.args.self.now.sent (i - 1) ≡ Some c.in-Some.sides = sym c.in-Some.ensures.sides in
    c.begins.ensures
    ∙ sym (piece-by stream c.args.place ∙ ap (λ v. piece_in 0 v.sent v.end c.args.place) (sym is)
    ∙ piece-found 0 c.args.self.now.sent c.args.self.now.end c.args.place (i - 1) c.in-Some.sides are low there
    (c.begun_by-begun.ensures.begun (i - 1) c.in-Some.sides (omega (arith, some)) there)
    (λ k d from within. c.begun_by-begun.ensures.above k d (omega (arith, some, from)) within))

get-some : (list : List (ℕ × ℕ)) (k : ℕ) → k < length list → None ≡ slice_get list k → ⊥
get-some [] k low none = absurd (omega arith)
get-some (side ∷ list) zero low none = cc
get-some (side ∷ list) (suc k) low none = get-some list k (omega arith) none

pub returns-in-None : goal.returns-in-None
returns-in-None c =
    absurd (get-some c.args.self.now.sent (c.begun_by-begun.result - 1)
    (let within = c.begun_by-begun.ensures.within in let isnt = c.if-begun-eq0.false in omega (arith, within, isnt))
    c.in-None.ensures.sides)
