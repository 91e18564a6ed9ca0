-- One more row.
use Rattle.std.proofs.Common.{[], ◌∷◌, ◌++◌, sym, ◌∙◌, subst}
use Rattle.fate_engine.specs.fate_core.Segments.{SegmentsStand}
use Rattle.fate_engine.specs.Common.{AreSegments}
use Rattle.fate_engine.proofs.RowSegmentLookupLaws.{go-on, break-off}
use Rattle.fate_engine.proofs.fate_core.row_segments.Segments.row.Goals as goal

pub returns-then-whole-clause-ok : goal.returns-then-whole-clause-ok
returns-then-whole-clause-ok c = λ rows row stands whole tells.
    subst (λ kept. SegmentsStand kept (rows ++ row ∷ [])) (sym c.go_on.ensures)
    (go-on c.args.self.now rows row stands (subst AreSegments c.self.view_is c.self.invariant) c.args.end
    c.args.confirmed (whole ∙ c.if-whole.true) tells)

pub returns-in_ok-break_off-clause-ok : goal.returns-in_ok-break_off-clause-ok
returns-in_ok-break_off-clause-ok c = λ rows row stands whole tells.
    subst (λ kept. SegmentsStand kept (rows ++ row ∷ [])) (sym c.in_ok-break_off.ensures.ok)
    (break-off c.args.self.now rows row stands (subst AreSegments c.self.view_is c.self.invariant) c.args.end
    c.args.confirmed (whole ∙ c.if-whole.false) tells)
