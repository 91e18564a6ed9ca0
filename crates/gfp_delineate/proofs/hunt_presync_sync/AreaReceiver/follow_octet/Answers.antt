-- One of the first three octets of a header in SYNC.
use Rattle.std.proofs.Common.{◌+◌}
use Rattle.gfp_delineate.specs.declared.hunt_presync_sync.Phase.TheVariants.{SyncHeader}
use Rattle.gfp_delineate.proofs.ReceiverProgressLaws.{seen}
use Rattle.gfp_delineate.proofs.HuntPresyncSteps.{shifted}
use Rattle.gfp_delineate.proofs.SyncHeaderAreaSteps.{Takes-follow-part}
use Rattle.gfp_delineate.proofs.hunt_presync_sync.AreaReceiver.follow_octet.Goals as goal

pub returns-then-have-lt3 : goal.returns-then-have-lt3
returns-then-have-lt3 c =
    rw c.shifted-self-inside.ensures
    (seen c.args.self.now _ (λ old. shifted old c.args.octet (SyncHeader (c.args.have + 1))) _ _ c.self.view_is
    (Takes-follow-part c.args.self.now c.args.octet c.args.have c.if-have-lt3.true c.requires))
