-- Eight words more.
use Rattle.std.proofs.Common.{◌≡◌, ◌+◌, ◌*◌, ◌++◌, take, sym, ap, ◌∙◌, arith}
use Rattle.std.specs.Int.{to_le_bytes, w64}
use Rattle.gfp_delineate.specs.Repeated.{repeated}
use Rattle.gfp_delineate.proofs.OctetPieceAndIdleRunLaws.{repeated-add}
use Rattle.gfp_delineate.proofs.idle_runs.block_run.Goals as goal

pub loop-i-preserved : goal.loop-i-preserved
loop-i-preserved c =
    let i = c.loop-i.i in
    let octets = to_le_bytes w64 c.args.word in
    (let e : 64 * (i + 1) ≡ 64 * i + 64 = omega arith in ap (λ n. take n c.args.piece.now) e)
    ∙ c.are_eight.ensures c.if-not-are_eight.false
    ∙ ap (λ l. l ++ repeated 8 octets) c.loop-i.invariant
    ∙ sym (repeated-add (8 * i) 8 octets)
    ∙ (let e : 8 * i + 8 ≡ 8 * (i + 1) = omega arith in ap (λ n. repeated n octets) e)
