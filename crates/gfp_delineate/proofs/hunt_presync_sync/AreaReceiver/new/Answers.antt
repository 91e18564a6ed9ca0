-- No octet of the first segment has come.
use Rattle.std.proofs.Common.{true, refl}
use Rattle.gfp_delineate.proofs.ReceiverProgressLaws.{IsAt-start}
use Rattle.gfp_delineate.proofs.hunt_presync_sync.AreaReceiver.new.Goals as goal

pub returns : goal.returns
returns c = IsAt-start _ c.args.longest c.args.corrects true refl refl refl refl c.new.ensures
