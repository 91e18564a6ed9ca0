-- More rows add frames.
use Rattle.law_loss.proofs.SegmentsOfAddedRowsLaws.{deliver-grows}
use Rattle.law_loss.proofs.grow_law.Goals as goal

pub returns : goal.returns
returns c = deliver-grows
