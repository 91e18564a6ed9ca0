-- The descrambler forgot, and HUNT begins: no octet of the new segment has come.
use Rattle.std.proofs.Common.{false, refl, ◌∙◌, ap}
use Rattle.gfp_delineate.specs.ReceivedAreas.{Progress}
use Rattle.gfp_delineate.proofs.ReceiverProgressLaws.{IsAt-start}
use Rattle.gfp_delineate.proofs.hunt_presync_sync.AreaReceiver.broken.Goals as goal

pub returns-clause-stands : goal.returns-clause-stands
returns-clause-stands c longest corrects first octets stands =
    IsAt-start _ longest corrects false refl
    (ap (λ (receiver : Progress). receiver.longest) c.self.view_is ∙ stands.limit)
    (ap (λ (receiver : Progress). receiver.corrects) c.self.view_is ∙ stands.setting) c.self.told
    c.forget.ensures
