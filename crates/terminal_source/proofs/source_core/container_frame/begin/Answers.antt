-- A container of which nothing is filled is blank.
use Rattle.std.proofs.Common.{refl, sym, subst}
use Rattle.law_model.specs.Common.{blank}
use Rattle.terminal_source.specs.source_core.FrameContainers.{IsBegun}
use Rattle.terminal_source.proofs.source_core.container_frame.begin.Goals as goal

pub returns-then-filled-eq0 : goal.returns-then-filled-eq0
returns-then-filled-eq0 c =
    subst (IsBegun c.args.h4 c.args.filled) (sym c.begin_blank.ensures)
    (subst (λ n. IsBegun c.args.h4 n (blank c.args.h4)) (sym c.if-filled-eq0.true)
    (record { header = refl; zeros = refl }))
