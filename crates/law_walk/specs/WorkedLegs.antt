-- Worked legs: what is refused, what is accepted, and what is counted.
use Rattle.std.specs.Prelude.{ℕ, ◌-◌, Bool, true, false, List, [], ◌∷◌, ◌++◌, map, length, replicate, codes}
use Rattle.std.specs.List.{range_with_len}
use Rattle.law_model.specs.Common.{Leg, scenario_by, is_whole_row, Counts, default_options, vc3_size}
use Rattle.law_model.specs.declared.item_refusals.AcceptFault.TheVariants.{Length}
use Rattle.law_model.specs.declared.item_refusals.CommandFault.TheVariants.{UnknownLine, AlreadyIn, NotIn}
use Rattle.law_model.specs.declared.window_types.Window.{Window}
use Rattle.law_model.specs.declared.script_types.Config.{Config}
use Rattle.law_model.specs.declared.script_types.Item.{Item}
use Rattle.law_model.specs.declared.script_types.ItemKind.{ItemKind}
use Rattle.law_model.specs.declared.item_refusals.Refusal.{Refusal}
use Rattle.law_model.specs.declared.session_totals.Totals.{Totals}
use Rattle.law_model.specs.declared.script_types.ItemKind.TheVariants.{Frame, Add, Remove}
use Rattle.law_model.specs.declared.item_refusals.Refusal.TheVariants.{Frame as frame_fault, Command as command_fault}
use Rattle.law_walk.specs.Walk.{session_of}

abbrev pub item : ℕ → ItemKind → Item
item due kind = record { due = due; kind = kind }

-- lines with these failures, without delay, whose containers have 756 octets, and whose return packets all come
abbrev pub plain : List (List Window) → ℕ → ℕ → ℕ → Config
plain windows ring lag ticks = record {
  lines = length windows;
  delays = replicate (length windows) 0;
  windows = windows;
  lost = [];
  ring = ring;
  lag = lag;
  ticks = ticks;
  size = vc3_size;
  options = default_options;
}

-- one line; 41 ticks; a frame that is too short, a line that there isn't, and a line that is added twice and removed
-- twice
abbrev pub eight_items : List Item
eight_items =
    item 0 (Frame (replicate 63 0)) ∷ item 0 (Add 1) ∷ item 0 (Frame (replicate 64 1)) ∷ item 0 (Add 0) ∷ item 5 (Add 0)
    ∷ item 20 (Remove 0) ∷ item 20 (Remove 0) ∷ item 40 (Frame (replicate 64 2)) ∷ []

abbrev pub worked_leg : Leg
worked_leg = record { config = plain ([] ∷ []) 1 2 41; items = eight_items; tells = [] }

-- all have landed and all rows are taken; and one frame and two commands have landed before the first tick
abbrev pub at_the_end : Counts
at_the_end = record {
  ticks = 41;
  frames = 3;
  commands = 5;
  lines = record { carried = 42; popped = 41 } ∷ [];
  rows = 41;
  backs = 2;
}

abbrev pub three_landed : Counts
three_landed = record {
  ticks = 0;
  frames = 1;
  commands = 2;
  lines = record { carried = 0; popped = 0 } ∷ [];
  rows = 0;
  backs = 0;
}

abbrev pub first_refusals : List (ℕ × Refusal)
first_refusals = (0, frame_fault (Length 63)) ∷ (1, command_fault (UnknownLine 1)) ∷ []

abbrev pub all_refusals : List (ℕ × Refusal)
all_refusals =
    (0, frame_fault (Length 63)) ∷ (1, command_fault (UnknownLine 1)) ∷ (4, command_fault AlreadyIn) ∷
    (6, command_fault NotIn) ∷ []

abbrev pub first_totals : Totals
first_totals = record { ticks = 0; taken = 0; frames = 0; commands = 1; refused = 2; got = 0 }

abbrev pub all_totals : Totals
all_totals = record { ticks = 41; taken = 41; frames = 2; commands = 2; refused = 4; got = 0 }

abbrev pub two_frames : List (List ℕ)
two_frames = replicate 64 1 ∷ replicate 64 2 ∷ []

abbrev pub worked_report : List ℕ
worked_report =
    codes "refused 0 length 63\n" ++ codes "refused 1 unknown\n" ++ codes "refused 4 already in\n" ++ codes
    "refused 6 not in\n"
    ++ codes "total ticks 41 taken 41 frames 2 commands 2 refused 4 got 0\n"

-- ---- a frame that is delivered
-- the line is in use in packet 1, so the last row is the first that carries payload
abbrev pub delivering_leg : Leg
delivering_leg = record {
  config = plain ([] ∷ []) 1 1 41;
  items = item 0 (Add 0) ∷ item 0 (Frame (replicate 64 7)) ∷ [];
  tells = [];
}

abbrev pub one_frame : List (List ℕ)
one_frame = replicate 64 7 ∷ []

-- ---- a failure
-- one line, added at once, of which containers 1000 and 1001 fail and 1002 vanishes; and three frames after that
abbrev pub failing_windows : List (List Window)
failing_windows = (record { first = 1000; «end» = 1003; slip = 1 } ∷ []) ∷ []

abbrev pub failing_items : List Item
failing_items =
    item 0 (Add 0) ∷ item 1040 (Frame (replicate 64 1)) ∷ item 1040 (Frame (replicate 64 2))
    ∷ item 1040 (Frame (replicate 64 3)) ∷ []

abbrev pub failing_leg : Leg
failing_leg = record { config = plain failing_windows 4 2 1100; items = failing_items; tells = [] }

-- rows 999 to 1032: of the gaps, the first has 10 rows and the second 16, with 6 whole ones between
abbrev pub seen_rows : List ℕ
seen_rows = range_with_len 999 34

abbrev pub seen_whole : List Bool
seen_whole = true ∷ replicate 10 false ++ replicate 6 true ++ replicate 16 false ++ true ∷ []

abbrev pub whole_rows : Leg → List ℕ → List Bool
whole_rows leg rows = map (λ t. is_whole_row (scenario_by leg) (session_of leg) t) rows

-- ---- a line that is seen beside one that isn't
-- two lines, added at once; nothing of line 0 arrives
abbrev pub silent_windows : List (List Window)
silent_windows = (record { first = 0; «end» = 600; slip = 0 } ∷ []) ∷ [] ∷ []

abbrev pub silent_leg : Leg
silent_leg =
    record { config = plain silent_windows 1 1 600; items = item 0 (Add 0) ∷ item 0 (Add 1) ∷ []; tells = [] }

-- ---- a sink that goes on beside one that stops
-- two lines, added at once, of which container 900 of line 1 fails
abbrev pub near_windows : List (List Window)
near_windows = [] ∷ (record { first = 900; «end» = 901; slip = 0 } ∷ []) ∷ []

abbrev pub near_leg : Bool → Leg
near_leg infers = record {
  config = record (plain near_windows 1 1 1000) { options = record default_options { infers = infers } };
  items = item 0 (Add 0) ∷ item 0 (Add 1) ∷ [];
  tells = [];
}

-- rows 899 to 936, of which a number from 900 on aren't whole
abbrev pub near_rows : List ℕ
near_rows = range_with_len 899 38

abbrev pub near_whole : ℕ → List Bool
near_whole spoiled = true ∷ replicate spoiled false ++ replicate (37 - spoiled) true
