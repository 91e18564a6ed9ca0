-- Where a row lies.
use Rattle.std.proofs.Common.{rules, ◌≡◌, ◌-◌, ◌<◌, ◌≤◌, nat_le, true, false, length, take, drop, slice_get}
use Rattle.std.proofs.Common.{None, sym, ◌∙◌, ap, subst}
use Rattle.std.specs.Prelude.{if◌then◌else◌}
use Rattle.std.specs.List.Sorted.{IsPartitionedBy}
use Rattle.std.proofs.lemmas.List.{take_rest}
use Rattle.std.proofs.lemmas.Bool.{le-leb, lt-leb}
use Rattle.std.proofs.lemmas.Fn.{always_returns_same}
use Rattle.fate_engine.specs.Common.{IsAround, AreSegments}
use Rattle.fate_engine.specs.declared.fate_law.RowSegment.{RowSegment}
use Rattle.fate_engine.proofs.RowSegmentLookupLaws.{in_segment, in_none, parted, Passed, in-first, in-last, in-ended}
use Rattle.fate_engine.proofs.RowSegmentLookupLaws.{in-no}
use Rattle.fate_engine.proofs.fate_core.row_segments.Segments.around.Goals as goal
use Rattle.fate_engine.proofs.fate_core.row_segments.Segments.around.Goals.{After-partition_point-passed}
use Rattle.fate_engine.proofs.fate_core.row_segments.Segments.around.Goals.{After-deref-2}

pub returns-then-row-self : goal.returns-then-row-self
returns-then-row-self c = λ rows stands low.
    subst (λ v. IsAround rows c.args.row (record { spoiled = v.first; first = true; mark = None })) (sym c.self.view_is)
    (in-first c.args.self.now rows stands (subst AreSegments c.self.view_is c.self.invariant) c.args.row low
    (subst (λ v. c.args.row < v.first) c.self.view_is c.if-row-self.true))

pub returns-then-self-row : goal.returns-then-self-row
returns-then-self-row c = λ rows stands low.
    subst (IsAround rows c.args.row)
    (sym (c.within.ensures ∙ ap (λ v. record { spoiled = v.last.end; first = false; mark = v.last.mark })
    c.self.view_is))
    (in-last c.args.self.now rows stands (subst AreSegments c.self.view_is c.self.invariant) c.args.row low
    (subst (λ v. v.first ≤ c.args.row) c.self.view_is c.if-row-self.false)
    (subst (λ v. v.last.first ≤ c.args.row) c.self.view_is c.if-self-row.true))

-- the first of the ended segments that the row is in front of the end of
point : (c : After-partition_point-passed) → Passed c.args.self.now.ended c.args.row c.partition_point-passed.result
point c =
    let row = c.args.row in
    let sorted : IsPartitionedBy (λ (s : RowSegment). nat_le s.end row) c.deref.result.now =
    subst (λ items. IsPartitionedBy (λ (s : RowSegment). nat_le s.end row) items) (sym c.deref.ensures.value)
    (parted c.self.inside.ended.items c.self.inside.last.first row c.self.invariant.order) in
    subst (λ items. Passed items row c.partition_point-passed.result)
    (c.deref.ensures.value ∙ ap (λ v. v.ended) c.self.view_is)
    (c.partition_point-passed.ensures.partitioned (λ s. nat_le s.end row)
    (always_returns_same _ _ _ (λ a r f k. search rules)) sorted)

-- it and those behind it
behind : (c : After-deref-2) →
    take (length c.deref-2.result.now - c.partition_point-passed.result)
    (drop c.partition_point-passed.result c.deref-2.result.now)
    ≡ drop c.partition_point-passed.result c.args.self.now.ended
behind c =
    take_rest c.deref-2.result.now c.partition_point-passed.result
    ∙ ap (drop c.partition_point-passed.result) (c.deref-2.ensures.value ∙ ap (λ v. v.ended) c.self.view_is)

pub returns-then-segment-row : goal.returns-then-segment-row
returns-then-segment-row c = λ rows stands low.
    let row = c.args.row in
    let at = goal.at.returns-then-segment-row c in
    subst (IsAround rows row) (ap (λ b. if b then in_segment c.in-Some.segment.now else in_none row)
    (le-leb c.in-Some.segment.now.first row c.if-segment-row.true) ∙ sym c.within-then-segment-row.ensures)
    (in-ended c.args.self.now rows stands (subst AreSegments c.self.view_is c.self.invariant) row low
    c.partition_point-passed.result c.in-Some.segment.now
    (subst (λ v. v.first ≤ row) c.self.view_is c.if-row-self.false) (point at.After-partition_point-passed)
    (c.in-Some.ensures.value ∙ ap (λ l. slice_get l 0) (behind at.After-deref-2)))

pub returns-else-segment-row : goal.returns-else-segment-row
returns-else-segment-row c = λ rows stands low.
    let row = c.args.row in
    let at = goal.at.returns-else-segment-row c in
    subst (IsAround rows row) (ap (λ b. if b then in_segment c.in-Some.segment.now else in_none row)
    (lt-leb c.in-Some.segment.now.first row c.if-segment-row.false) ∙ sym c.nowhere.ensures)
    (in-ended c.args.self.now rows stands (subst AreSegments c.self.view_is c.self.invariant) row low
    c.partition_point-passed.result c.in-Some.segment.now
    (subst (λ v. v.first ≤ row) c.self.view_is c.if-row-self.false) (point at.After-partition_point-passed)
    (c.in-Some.ensures.value ∙ ap (λ l. slice_get l 0) (behind at.After-deref-2)))

pub returns-in-None : goal.returns-in-None
returns-in-None c = λ rows stands low.
    let row = c.args.row in
    let at = goal.at.returns-in-None c in
    subst (IsAround rows row) (sym c.nowhere-in-None.ensures)
    (in-no c.args.self.now rows stands (subst AreSegments c.self.view_is c.self.invariant) row low
    c.partition_point-passed.result (subst (λ v. v.first ≤ row) c.self.view_is c.if-row-self.false)
    (subst (λ v. row < v.last.first) c.self.view_is c.if-self-row.false) (point at.After-partition_point-passed)
    (c.in-None.ensures.value ∙ ap (λ l. slice_get l 0) (behind at.After-deref-2)))
