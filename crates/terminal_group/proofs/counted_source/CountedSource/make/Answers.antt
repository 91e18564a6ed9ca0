-- A frame was made of the cell that it needs.
use Rattle.std.proofs.Common.{◌≡◌, ◌<◌, None, sym, ◌∙◌, ap, subst, arith, is_some}
use Rattle.terminal_source.specs.source_core.Terminal.{needed}
use Rattle.terminal_group.specs.ReturnInbox.{cell_for}
use Rattle.terminal_group.specs.Source.{missing_by}
use Rattle.terminal_group.specs.SourceByCounts.{Counted, missing_from}
use Rattle.terminal_group.proofs.InboxReturnCellLaws.{cell-for}
use Rattle.terminal_group.proofs.counted_source.CountedSource.make.Goals as goal

pub tick-requires-clause-back : goal.tick-requires-clause-back
tick-requires-clause-back c =
    let f = c.self.inside in
    let none : missing_by (needed f.core) f.inbox.cells ≡ None = ap missing_from c.self.view_is ∙ c.requires.cell in
    let same = c.is_some.ensures ∙ ap is_some c.needs_back.ensures in
    let t = ap is_some (c.take-cell.ensures.cell ∙ ap (λ b. cell_for b f.inbox.cells) same)
    ∙ cell-for (needed f.core) f.inbox.cells none in
    (λ is. sym t ∙ is, λ is. t ∙ is)

pub tick-requires-clause-few : goal.tick-requires-clause-few
tick-requires-clause-few c =
    let low = subst (λ (s : Counted). s.core.ticks < s.total) (sym c.self.view_is) c.requires.left in
    let most = c.self.invariant in
    omega (arith, low, most)
