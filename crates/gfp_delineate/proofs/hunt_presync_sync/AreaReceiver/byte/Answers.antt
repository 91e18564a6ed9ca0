-- A step that takes some of one octet takes that octet.
use Rattle.std.proofs.Common.{subst}
use Rattle.gfp_delineate.specs.ReceivedAreas.{Goes, Adds, ends_told}
use Rattle.gfp_delineate.proofs.OctetPieceAndIdleRunLaws.{part_of_one}
use Rattle.gfp_delineate.proofs.hunt_presync_sync.AreaReceiver.byte.Goals as goal

pub returns-clause-stands : goal.returns-clause-stands
returns-clause-stands c =
    subst (λ part. Goes c.args.self.now c.step-step.new.self part)
    (part_of_one c.step-step.result.0 c.args.octet c.step-step.ensures.some c.step-step.ensures.within)
    c.step-step.ensures.takes.0

pub returns-clause-outcome : goal.returns-clause-outcome
returns-clause-outcome c =
    subst (λ part. Adds c.args.self.now part (ends_told c.step-step.new.self.area c.step-step.result.1))
    (part_of_one c.step-step.result.0 c.args.octet c.step-step.ensures.some c.step-step.ensures.within)
    c.step-step.ensures.takes.1
