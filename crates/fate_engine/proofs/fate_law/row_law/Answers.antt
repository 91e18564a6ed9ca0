-- Rows and places.
use Rattle.fate_engine.proofs.FrameRowAndSegmentLaws.{row-of_place, lies-rows, cut-row, fate-rows}
use Rattle.fate_engine.proofs.fate_law.row_law.Goals as goal

pub returns : goal.returns
returns c = record { place = row-of_place; lies = lies-rows; cut = cut-row; fate = fate-rows }
