-- Sixteen more idles, and at last those that are left.
use Rattle.std.proofs.Common.{◌≡◌, ℕ, ◌+◌, ◌*◌, ◌/◌, ◌%◌, take, length, ap, ◌∙◌, subst, arith, length-take-le}
use Rattle.law_model.proofs.CoreHeaderLaws.{idles}
use Rattle.gfp_fill.proofs.IdlesAndNextPiecesLaws.{repeated, idles-sixteen, idles-rest}
use Rattle.gfp_fill.proofs.area_sender.put_idles.Goals as goal

pub loop-i-preserved : goal.loop-i-preserved
loop-i-preserved c =
    let i = c.loop-i.i in
    let count : 64 * (i + 1) ≡ 64 * i + 64 = omega arith in
    ap (λ n. take n c.put.new.out) count ∙ c.put.ensures.front
    ∙ idles-sixteen i (take (64 * i) c.loop-i.out) c.loop-i.invariant

pub returns-clause-idles : goal.returns-clause-idles
returns-clause-idles c =
    let n = length c.args.out.now / 4 in
    let blocks = c.loop-i.i in
    let rest : ℕ = 4 * (n % 16) in
    let last : blocks ≡ n / 16 = omega arith in
    let size : length (take rest (repeated 16)) ≡ rest = length-take-le rest (repeated 16) (omega arith) in
    let all : 4 * n ≡ 64 * (n / 16) + length (take rest (repeated 16)) = omega (arith, size) in
    let done : take (64 * (n / 16)) c.loop-i.out ≡ idles (16 * (n / 16)) =
    subst (λ k. take (64 * k) c.loop-i.out ≡ idles (16 * k)) last c.loop-i.invariant in
    ap (λ k. take k c.put-2.new.out) all ∙ c.put-2.ensures.front ∙ idles-rest n (take (64 * (n / 16)) c.loop-i.out) done
