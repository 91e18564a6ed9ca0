-- Octets of the area after the header that was found, or all that are left of it.
use Rattle.std.proofs.Common.{◌-◌, ℕ, List, length, take, ◌∙◌, arith, take_all, length-take-le}
use Rattle.gfp_delineate.specs.declared.hunt_presync_sync.Phase.TheVariants.{PresyncArea, PresyncHeader}
use Rattle.gfp_delineate.proofs.ReceiverProgressLaws.{seen}
use Rattle.gfp_delineate.proofs.HuntPresyncSteps.{in_phase, Takes-skip-part, Takes-skip-last}
use Rattle.gfp_delineate.proofs.hunt_presync_sync.AreaReceiver.skip.Goals as goal

pub returns-then-piece-rest-clause-takes : goal.returns-then-piece-rest-clause-takes
returns-then-piece-rest-clause-takes c =
    let piece : List ℕ = c.args.piece.now in
    rw (take_all (length piece) piece (omega arith))
    (seen c.args.self.now _ (λ old. in_phase old (PresyncArea (c.args.left - length piece))) _ _ c.self.view_is
    (Takes-skip-part c.args.self.now piece c.args.left c.requires.phase (omega arith)))

pub returns-clause-takes : goal.returns-clause-takes
returns-clause-takes c =
    let part : List ℕ = take c.from-rest.result c.args.piece.now in
    seen c.args.self.now _ (λ old. in_phase old (PresyncHeader 0)) part _ c.self.view_is
    (Takes-skip-last c.args.self.now part c.args.left c.requires.phase
    (length-take-le c.from-rest.result c.args.piece.now c.if-piece-rest.false ∙ c.from-rest.ensures))
