-- The search among the frames that are begun.
use Rattle.std.proofs.Common.{rules, ◌≡◌, nat_lt, List, length, take, sym, ap, subst, arith}
use Rattle.std.specs.List.Sorted.{IsPartitionedBy}
use Rattle.std.proofs.lemmas.Fn.{always_returns_same}
use Rattle.fate_engine.specs.Common.{begun_before}
use Rattle.fate_engine.specs.declared.fate_core.frame_ruler.Piece.{Piece}
use Rattle.fate_engine.proofs.RulerAndFrameSideLaws.{BegunBefore, parted-before, count-before}
use Rattle.fate_engine.proofs.fate_core.frame_ruler.Ruler.begun_before.Goals as goal

pub returns : goal.returns
returns c =
    let place = c.args.place in
    let begun = c.self.inside.begun in
    let i = c.partition_point.result in
    let frames : List Piece = take begun c.self.inside.frames.items in
    let same : take begun c.deref.result.now ≡ frames = ap (take begun) c.deref.ensures.value in
    let sorted : IsPartitionedBy (λ (p : Piece). nat_lt p.from place) (take begun c.deref.result.now) =
    subst (λ items. IsPartitionedBy (λ (p : Piece). nat_lt p.from place) items) (sym same)
    (parted-before frames c.self.inside.end place c.self.invariant.order) in
    let point : BegunBefore frames place i =
    subst (λ items. BegunBefore items place i) same
    (c.partition_point.ensures.partitioned (λ p. nat_lt p.from place)
    (always_returns_same _ _ _ (λ a r f k. search rules)) sorted) in
    subst (λ v. i ≡ begun_before place v.sent) c.self.view_is
    (count-before frames place i (let bound = c.partition_point.ensures.bound in omega (arith, bound, ap length same))
    point)
