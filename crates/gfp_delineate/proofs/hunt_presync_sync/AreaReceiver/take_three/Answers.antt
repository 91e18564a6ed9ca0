-- Three octets of a header, one after the other.
use Rattle.gfp_delineate.specs.declared.hunt_presync_sync.Phase.TheVariants.{SyncHeader}
use Rattle.gfp_delineate.proofs.ReceiverProgressLaws.{seen}
use Rattle.gfp_delineate.proofs.HuntPresyncSteps.{shifted}
use Rattle.gfp_delineate.proofs.SyncHeaderAreaSteps.{Takes-three}
use Rattle.gfp_delineate.proofs.hunt_presync_sync.AreaReceiver.take_three.Goals as goal

pub returns-clause-takes : goal.returns-clause-takes
returns-clause-takes c =
    rw (c.shifted-self-inside.ensures, c.shifted-2.ensures, c.shifted.ensures)
    (seen _ _ (λ old. shifted (shifted (shifted old c.args.a (SyncHeader 1)) c.args.b (SyncHeader 2)) c.args.c
    (SyncHeader 3)) _ _ c.self.view_is (Takes-three c.args.self.now c.args.a c.args.b c.args.c c.requires))
