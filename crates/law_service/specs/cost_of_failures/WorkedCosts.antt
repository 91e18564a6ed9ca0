-- Worked legs in which what failures cost ends as late as it can.
use Rattle.std.specs.Prelude.{ℕ, List, [], ◌∷◌, map}
use Rattle.law_model.specs.Common.{Leg, active, default_options}
use Rattle.law_model.specs.declared.window_types.Window.{Window}
use Rattle.law_model.specs.declared.script_types.ItemKind.TheVariants.{Add}
use Rattle.law_walk.specs.Common.{item, plain}
use Rattle.law_service.specs.cost_of_failures.Cost.{governing_table}

-- containers 536 to 1024 fail, of which the last three vanish
abbrev pub costly_window : Window
costly_window = record { first = 536; «end» = 1025; slip = 3 }

-- of two lines, those of line 1
abbrev pub costly_windows : List (List Window)
costly_windows = [] ∷ (costly_window ∷ []) ∷ []

-- both lines are added at once; the lag is two packets, and there are 1,400 ticks
abbrev pub costly_leg : Leg
costly_leg = record { config = plain costly_windows 4 2 1400; items = item 0 (Add 0) ∷ item 0 (Add 1) ∷ []; tells = [] }

-- the same lines, of which containers 488 to 944 of line 1 fail, with a hold-off of three packets and a restore of five
abbrev pub dearest_windows : List (List Window)
dearest_windows = [] ∷ (record { first = 488; «end» = 945; slip = 0 } ∷ []) ∷ []

abbrev pub dearest_leg : Leg
dearest_leg = record {
  config = record (plain dearest_windows 4 2 1400) {
    options = record default_options { holdoff = 3; restore = 5 };
  };
  items = item 0 (Add 0) ∷ item 0 (Add 1) ∷ [];
  tells = [];
}

-- of three lines, containers 1000 to 1023 of line 1 fail and, behind a horizon of 4,000, containers 5000 to 5023 of
-- line 2
abbrev pub sooner_window : Window
sooner_window = record { first = 1000; «end» = 1024; slip = 0 }

abbrev pub later_window : Window
later_window = record { first = 5000; «end» = 5024; slip = 0 }

abbrev pub parted_windows : List (List Window)
parted_windows = [] ∷ (sooner_window ∷ []) ∷ (later_window ∷ []) ∷ []

abbrev pub parted_leg : Leg
parted_leg = record {
  config = plain parted_windows 4 2 5100;
  items = item 0 (Add 0) ∷ item 0 (Add 1) ∷ item 0 (Add 2) ∷ [];
  tells = [];
}

-- the lines that carry payload in some rows
abbrev pub used_in_rows : Leg → List ℕ → List (List ℕ)
used_in_rows leg rows = map (λ t. active (governing_table leg t)) rows
