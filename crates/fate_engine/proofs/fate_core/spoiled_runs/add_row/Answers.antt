-- The row goes on with the last run, or begins one.
use Rattle.std.proofs.Common.{◌≡◌, ◌-◌, slice_index_or, sym, ◌∙◌, subst, arith}
use Rattle.fate_engine.proofs.SpoiledRunAndWholeContainerLaws.{row-meets, row-apart}
use Rattle.fate_engine.proofs.fate_core.spoiled_runs.add_row.Goals as goal
use Rattle.fate_engine.proofs.fate_core.spoiled_runs.add_row.Goals.{else-n-gt0-via-then-n-gt0+else-goes_on}
use Rattle.fate_engine.proofs.fate_core.spoiled_runs.add_row.Goals.{else-n-gt0-via-else-n-gt0}

pub returns-then-goes_on-clause-ok : goal.returns-then-goes_on-clause-ok
returns-then-goes_on-clause-ok c =
    row-meets c.args.runs.now.items c.args.row c.args.cause
    (c.len-n.result - 1) c.index.result.now c.index_mut.result.now
    (let n = c.len-n.ensures in omega (arith, n, c.if-n-gt0.true)) c.index.ensures c.index_mut.ensures.value
    (sym c.goes_on.ensures ∙ c.if-goes_on.true)

pub returns-clause-ok : goal.returns-clause-ok
returns-clause-ok c =
    c.in_ok-push.ensures.items
    ∙ row-apart c.args.runs.now.items c.args.row c.args.cause (λ i count.
    elim c.else-n-gt0.branch [
      | else-n-gt0-via-then-n-gt0+else-goes_on w ↦ (
          let at : c.len-n.result - 1 ≡ i = (let n = c.len-n.ensures in omega (arith, n, count)) in (
            w.index.result.now,
            subst (λ k. w.index.result.now ≡ slice_index_or c.args.runs.now.items k
                w.index.result.now) at w.index.ensures,
            sym w.goes_on.ensures ∙ w.if-goes_on.false,
          ))
      | else-n-gt0-via-else-n-gt0 w ↦ absurd (let n = c.len-n.ensures in omega (arith, n, count, w.if-n-gt0.false))
    ])
