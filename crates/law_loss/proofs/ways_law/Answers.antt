-- The four ways in which a frame is lost.
use Rattle.law_model.specs.Common.{segments}
use Rattle.law_loss.proofs.SegmentsOfAddedRowsLaws.{Stands-all}
use Rattle.law_loss.proofs.GivenAndLostFrameLaws.{way_of, lost_of}
use Rattle.law_loss.proofs.ways_law.Goals as goal

pub returns : goal.returns
returns c rows all frame some =
    (way_of all frame (segments rows), lost_of all frame (segments rows) some (Stands-all rows).order)
