-- Worked legs, computed.
use Rattle.std.proofs.Common.{refl}
use Rattle.law_model.specs.members.Damage.{carried}
use Rattle.law_model.specs.Common.{are_whole, is_up, last_read, keep, none_kept, admit, turned, take_out}
use Rattle.law_model.specs.Common.{exchange, after, said_before, cells_before}
use Rattle.law_model.specs.Common.{reaching, place_of, stream_before, rows_of, segments_on, delineate_within}
use Rattle.law_model.specs.Common.{hunt_within}
use Rattle.law_walk.specs.Common.{landed_from}
use Rattle.fate_check.proofs.worked_law.Goals as goal

pub returns : goal.returns
unfolding carried are_whole after keep none_kept cells_before said_before exchange take_out turned admit is_up last_read
    landed_from stream_before reaching place_of rows_of segments_on delineate_within hunt_within
returns c = record { unused = refl; first = refl; idle = refl; lone = refl; payload = refl; early = refl }
