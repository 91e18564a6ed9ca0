-- Each lane by sixteen.
use Rattle.std.proofs.Common.{◌/◌, replicate, slice_index, ◌∙◌, ap, arith}
use Rattle.std.proofs.lemmas.Simd.{Each2-splat, Each1-all, get_or-zip2, get_or-replicate}
use Rattle.text_hex.proofs.encoding.uppers.Goals as goal

pub nonzero_div-result : goal.nonzero_div-result
nonzero_div-result c = Each2-splat _ c.args.all 16 16 (Each1-all _ (λ x. omega arith) c.args.all)

pub returns : goal.returns
returns c i below =
    get_or-zip2 _ c.args.all (replicate 16 16) i 0 0 0 (omega (arith, c.fits-all.0)) below
    ∙ ap (λ n. slice_index c.args.all i / n) (get_or-replicate 16 i 16 0 below)
