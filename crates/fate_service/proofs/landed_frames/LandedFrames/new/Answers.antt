-- Nothing has landed.
use Rattle.fate_service.specs.FrameColumns.{waits_on}
use Rattle.fate_service.proofs.landed_frames.LandedFrames.new.Goals as goal

pub returns-clause-landed : goal.returns-clause-landed
unfolding waits_on
returns-clause-landed c = record {
  offered = c.in_ok-with_capacity.ensures.items;
  accepted = c.in_ok-with_capacity-2.ensures.items;
  carried = c.in_ok-with_capacity-3.ensures.items;
  waits = c.none.ensures;
}
