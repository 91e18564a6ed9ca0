-- Worked walks, and outages of worked rows.
use Rattle.std.specs.Prelude.{ℕ, List, [], ◌∷◌, ◌++◌, length, replicate, codes, option_to_list}
use Rattle.std.specs.List.{flat_map}
use Rattle.law_model.specs.declared.script_types.Item.{Item}
use Rattle.law_model.specs.declared.script_types.ItemKind.TheVariants.{Frame, Add}
use Rattle.law_model.specs.session.Counts.{Counts}
use Rattle.law_model.specs.session.Leg.{Leg}
use Rattle.law_model.specs.frames.Loss.{Extent, extents}
use Rattle.law_loss.specs.WorkedLosses.{worked_pieces, worked_rows}
use Rattle.law_walk.specs.WorkedLegs.{item, plain}
use Rattle.fate_engine.specs.fate_law.Fates.{fate_of}
use Rattle.fate_service.specs.declared.landed_frames.CarriedFrame.{CarriedFrame}
use Rattle.fate_service.specs.FrameColumns.{carried_if}
use Rattle.fate_service.specs.service_law.LinesAsNumbers.{OutageLine, outage_lines}
use Rattle.fate_service.specs.service_law.OutageRuns.{row_outages}

-- ---- a walk of one tick
abbrev pub one_tick : Leg
one_tick = record { config = plain ([] ∷ []) 1 1 1; items = []; tells = [] }

abbrev pub one_made : Counts
one_made = record {
  ticks = 1;
  frames = 0;
  commands = 0;
  lines = record { carried = 1; popped = 1 } ∷ [];
  rows = 1;
  backs = 0;
}

abbrev pub one_text : List ℕ
one_text =
    codes "members 0 1 0 0\n"
    ++ codes "stretch 0 1 offered 0 0 refused 0 0 got 0 0 lost 0 0 capacity 0 queue 0 0 delay 0 dark 0\n"
    ++ codes "delays least 0 half 0 most 0 greatest 0 path 0\n"
    ++ codes "service 0 1 offered 0 0 refused 0 0 got 0 0 lost 0 0 capacity 0 queue 0 0 delay 0 dark 0"
    ++ codes " outages 0 waits 0 0 ticks 1 taken 1 starts true\n"

-- ---- a walk that stops early
-- one line, in use from frame 56 on, for its return packets come late; three frames come behind that
abbrev pub late_items : List Item
late_items =
    item 0 (Add 0) ∷ item 60 (Frame (replicate 64 0)) ∷ item 61 (Frame (replicate 64 0))
    ∷ item 62 (Frame (replicate 64 0)) ∷ []

abbrev pub late_leg : Leg
late_leg = record {
  config = record (plain ([] ∷ []) 4 2 63) { delays = 3 ∷ [] };
  items = late_items;
  tells = [];
}

-- after 62 ticks all frames have landed, and 59 rows are taken
abbrev pub late_counts : Counts
late_counts = record {
  ticks = 62;
  frames = 3;
  commands = 1;
  lines = record { carried = 62; popped = 59 } ∷ [];
  rows = 59;
  backs = 2;
}

abbrev pub late_text : List ℕ
late_text =
    codes "members 0 56 0 0\n" ++ codes "members 56 59 1 756\n"
    ++ codes "stretch 0 61 offered 1 64 refused 0 0 got 0 0 lost 0 0 capacity 2268 queue 1 60 delay 0 dark 0\n"
    ++ codes "stretch 61 63 offered 2 128 refused 0 0 got 0 0 lost 0 0 capacity 0 queue 1 61 delay 0 dark 0\n"
    ++ codes "delays least 0 half 0 most 0 greatest 0 path 3\n"
    ++ codes "service 0 63 offered 3 192 refused 0 0 got 0 0 lost 0 0 capacity 2268 queue 1 60 delay 0 dark 0"
    ++ codes " outages 0 waits 3 192 ticks 62 taken 59 starts true\n"

-- ---- outages of the worked rows of losses, and what its frames are lost in
abbrev pub worked_carried : List CarriedFrame
worked_carried =
    flat_map (λ (e : Extent). option_to_list (carried_if 0 (length e.frame) (fate_of worked_pieces worked_rows e)))
    (extents 0 worked_pieces)

abbrev pub worked_outages : List OutageLine
worked_outages = outage_lines worked_carried 5 (row_outages worked_rows)

abbrev pub told_outages : List OutageLine
told_outages =
    record { outage = record { first = 1; end = 2; spoiled = 1 }; lost = record { frames = 3; octets = 6 } }
    ∷ record { outage = record { first = 3; end = 5; spoiled = 1 }; lost = record { frames = 2; octets = 4 } } ∷ []
