-- Each word is two idle headers, and one more may stand behind them.
use Rattle.std.proofs.Common.{◌≡◌, ◌+◌, ◌*◌, ◌++◌, take, sym, ap, ◌∙◌, arith}
use Rattle.law_model.proofs.CoreHeaderLaws.{idle_header, idles-more}
use Rattle.gfp_delineate.proofs.OctetPieceAndIdleRunLaws.{repeated-idles}
use Rattle.gfp_delineate.proofs.idle_runs.idle_run.Goals as goal

pub returns-then-is_idle-clause-run : goal.returns-then-is_idle-clause-run
returns-then-is_idle-clause-run c =
    let n = c.word_run-pairs.result in
    (let e : 4 * (2 * n + 1) ≡ 8 * n + 4 = omega arith in ap (λ m. take m c.args.piece.now) e)
    ∙ c.is_idle-then-piece-at-ge4.ensures c.if-is_idle.true
    ∙ ap (λ l. l ++ idle_header) (c.word_run-pairs.ensures.run ∙ repeated-idles n)
    ∙ sym (idles-more (2 * n))

pub returns-else-piece-at-ge4-clause-run : goal.returns-else-piece-at-ge4-clause-run
returns-else-piece-at-ge4-clause-run c =
    let n = c.word_run-pairs.result in
    (let e : 4 * (2 * n) ≡ 8 * n = omega arith in ap (λ m. take m c.args.piece.now) e)
    ∙ c.word_run-pairs.ensures.run
    ∙ repeated-idles n
