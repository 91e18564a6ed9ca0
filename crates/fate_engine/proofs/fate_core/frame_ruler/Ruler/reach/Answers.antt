-- Idles behind the frames.
use Rattle.std.proofs.Common.{◌+◌, ◌-◌, ◌*◌, ◌/◌, ◌<◌, ◌≤◌, sym, ◌∙◌, ap, subst, arith}
use Rattle.fate_engine.proofs.RulerAndFrameSideLaws.{ruled-there, ruled-idles, longer}
use Rattle.fate_engine.proofs.fate_core.frame_ruler.Ruler.reach.Goals as goal

pub invariant_of-self : goal.invariant_of-self
invariant_of-self c =
    longer c.self.inside.frames.items c.self.inside.begun c.self.inside.end
    (c.self.inside.end + (c.args.place - c.self.inside.end + 3) / 4 * 4) c.self.invariant (omega arith)
    (let low = c.requires in let end = c.if-self-place.true in omega (arith, low, end))

pub returns-then-self-place : goal.returns-then-self-place
returns-then-self-place c =
    let low = subst (λ v. v.end < c.args.place) c.self.view_is c.if-self-place.true in
    ap (λ v. record { end = v.end + (c.args.place - v.end + 3) / 4 * 4; sent = v.sent; waiting = v.waiting })
    c.self.view_is
    ∙ sym (ruled-idles c.args.place c.reach_by_frames.new.self low (c.reach_by_frames.ensures.done low))
    ∙ c.reach_by_frames.ensures.ruled

pub returns-else-self-place : goal.returns-else-self-place
returns-else-self-place c =
    sym (ruled-there c.args.place c.reach_by_frames.new.self
    (subst (λ v. c.args.place ≤ v.end) c.self.view_is c.if-self-place.false)) ∙ c.reach_by_frames.ensures.ruled
