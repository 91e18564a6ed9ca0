-- Worked legs, computed.
use Rattle.std.proofs.Common.{refl}
use Rattle.law_model.specs.Common.{extents, are_whole, said_before, cells_before, reaching, place_of, stream_before}
use Rattle.law_model.specs.Common.{is_up, last_read, after, keep, none_kept, admit, turned, take_out, exchange}
use Rattle.law_model.specs.members.Damage.{carried}
use Rattle.law_service.specs.FrameEnds.{placed_before}
use Rattle.law_service.proofs.legs_that_reach_bounds.worked_law.Goals as goal

pub returns : goal.returns
unfolding carried are_whole after keep none_kept cells_before said_before exchange take_out turned admit is_up
    last_read stream_before reaching place_of placed_before extents
returns c = record { told = refl; sides = refl; fills = refl; ends = refl; rows = refl }
