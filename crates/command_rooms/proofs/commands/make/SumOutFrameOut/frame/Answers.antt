-- One more frame is summed up.
use Rattle.std.proofs.Common.{refl}
use Rattle.command_rooms.proofs.WalkCaptureAndFrameSumLaws.{summed-next}
use Rattle.command_rooms.proofs.commands.make.SumOutFrameOut.frame.Goals as goal

pub returns : goal.returns
returns c start frames so =
    summed-next _ _ _ c.sum_of.result _ _ frames c.args.frame.now so c.requires refl c.sum_of.ensures.sum
    c.sum_of.ensures.small c.saturating_add-self.ensures c.saturating_add-self-2.ensures
