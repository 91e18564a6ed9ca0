-- Six octets settle a descrambler, so that the last six of a piece leave it as all of them do.
use Rattle.std.proofs.Common.{◌-◌, ℕ, List, false, [], length, drop, subst, arith, length-drop, take_all}
use Rattle.gfp_scramble.specs.Descrambler.{DescramblerStands}
use Rattle.gfp_delineate.proofs.OctetPieceAndIdleRunLaws.{Continues-last}
use Rattle.gfp_delineate.proofs.area_octets.pass_over.Goals as goal

pub returns-else-piece-le-SETTLING : goal.returns-else-piece-le-SETTLING
returns-else-piece-le-SETTLING c =
    let piece : List ℕ = c.args.piece.now in
    let skipped : ℕ = length piece - 6 in
    Continues-last c.args.descrambler.now c.settle-else-piece-le-SETTLING.new.descrambler piece (omega arith)
    (subst (λ last. DescramblerStands c.settle-else-piece-le-SETTLING.new.descrambler false last)
    (take_all (length piece - skipped) (drop skipped piece) (omega (arith, length-drop skipped piece)))
    (c.settle-else-piece-le-SETTLING.ensures false [] c.forget.ensures))
