-- Frame by frame.
use Rattle.std.proofs.Common.{◌<◌, length, sym, ◌∙◌, ap, subst, arith}
use Rattle.fate_engine.specs.Common.{ruled}
use Rattle.fate_engine.proofs.RulerAndFrameSideLaws.{some-waits, ruled-step, fewer}
use Rattle.fate_engine.proofs.fate_core.frame_ruler.Ruler.reach_by_frames.Goals as goal

pub loop-self-preserved : goal.loop-self-preserved
loop-self-preserved c =
    let some = subst (λ v. 0 < length v.waiting) c.self.view_is
    (some-waits c.self.inside.frames.items c.self.inside.begun c.self.inside.end
    (let n = c.len.ensures in omega (arith, n, c.if-self-len.true))) in
    let low = subst (λ v. v.end < c.args.place) c.self.view_is c.loop-self-test.true in
    ap (λ v. ruled c.args.place v.end v.sent v.waiting) c.begin.ensures
    ∙ ruled-step c.args.place c.loop-self.self.end c.loop-self.self.sent c.loop-self.self.waiting some low
    ∙ c.loop-self.invariant

pub loop-self-smaller : goal.loop-self-smaller
loop-self-smaller c =
    let some = subst (λ v. 0 < length v.waiting) c.self.view_is
    (some-waits c.self.inside.frames.items c.self.inside.begun c.self.inside.end
    (let n = c.len.ensures in omega (arith, n, c.if-self-len.true))) in
    subst (λ v. length v.waiting < length c.loop-self.self.waiting) (sym c.begin.ensures) (fewer c.loop-self.self some)
