-- One of the first three octets of the header that confirms.
use Rattle.std.proofs.Common.{◌+◌}
use Rattle.gfp_delineate.specs.declared.hunt_presync_sync.Phase.TheVariants.{PresyncHeader}
use Rattle.gfp_delineate.proofs.ReceiverProgressLaws.{seen}
use Rattle.gfp_delineate.proofs.HuntPresyncSteps.{shifted, Takes-confirm-part}
use Rattle.gfp_delineate.proofs.hunt_presync_sync.AreaReceiver.confirm.Goals as goal

pub returns-then-have-lt3 : goal.returns-then-have-lt3
returns-then-have-lt3 c =
    rw c.shifted-self-inside.ensures
    (seen c.args.self.now _ (λ old. shifted old c.args.octet (PresyncHeader (c.args.have + 1))) _ _ c.self.view_is
    (Takes-confirm-part c.args.self.now c.args.octet c.args.have c.if-have-lt3.true c.requires))
