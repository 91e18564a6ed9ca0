-- The words of the blocks, and those behind them.
use Rattle.std.proofs.Common.{◌≡◌, ℕ, List, ◌+◌, ◌-◌, ◌*◌, ◌++◌, length, take, drop, sym, ap, ap₂, ◌∙◌, arith}
use Rattle.std.proofs.Common.{length-drop, w64, take-add, take_all}
use Rattle.std.specs.Int.{to_le_bytes}
use Rattle.gfp_delineate.proofs.OctetPieceAndIdleRunLaws.{repeated-add}
use Rattle.gfp_delineate.proofs.idle_runs.word_run.Goals as goal

pub returns-clause-run : goal.returns-clause-run
returns-clause-run c =
    let blocks : ℕ = c.block_run-blocks.result in
    let few : ℕ = c.few_words.result in
    let piece : List ℕ = c.args.piece.now in
    let octets : List ℕ = to_le_bytes w64 c.args.word in
    let front : ℕ = 64 * blocks in
    let rest : take (length piece - front) (drop front piece) ≡ drop front piece =
    take_all (length piece - front) (drop front piece) (omega (arith, length-drop front piece)) in
    (let e : 8 * (8 * blocks + few) ≡ front + 8 * few = omega arith in ap (λ n. take n piece) e)
    ∙ take-add front (8 * few) piece
    ∙ ap₂ ◌++◌ c.block_run-blocks.ensures.run (ap (take (8 * few)) (sym rest) ∙ c.few_words.ensures.run)
    ∙ sym (repeated-add (8 * blocks) few octets)
