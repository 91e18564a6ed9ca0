-- In HUNT, and in the header that confirms, the first octet is taken alone.
use Rattle.gfp_delineate.proofs.OctetPieceAndIdleRunLaws.{take_one}
use Rattle.gfp_delineate.proofs.hunt_presync_sync.AreaReceiver.step.Goals as goal

pub returns-in-Hunt-clause-takes : goal.returns-in-Hunt-clause-takes
returns-in-Hunt-clause-takes c = rw (take_one c.args.piece.now c.requires) c.hunt.ensures

pub returns-in-PresyncHeader-clause-takes : goal.returns-in-PresyncHeader-clause-takes
returns-in-PresyncHeader-clause-takes c = rw (take_one c.args.piece.now c.requires) c.confirm.ensures
