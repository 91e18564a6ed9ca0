-- Worked legs: lines that are unused, failures that are idle, and frames that are early.
use Rattle.std.specs.Prelude.{[], ◌∷◌, replicate}
use Rattle.law_model.specs.declared.window_types.Window.{Window}
use Rattle.law_model.specs.declared.script_types.ItemKind.TheVariants.{Add, Frame}
use Rattle.law_model.specs.session.Counts.{Counts}
use Rattle.law_model.specs.session.Leg.{Leg}
use Rattle.law_walk.specs.WorkedLegs.{item, plain}

abbrev pub used_window : Window
used_window = record { first = 90; «end» = 92; slip = 0 }

abbrev pub unused_window : Window
unused_window = record { first = 50; «end» = 60; slip = 0 }

-- of two lines that both fail, line 0 alone is added
abbrev pub worked_leg : Leg
worked_leg = record {
  config = plain ((used_window ∷ []) ∷ (unused_window ∷ []) ∷ []) 4 1 100;
  items = item 0 (Add 0) ∷ [];
  tells = [];
}

-- the first one with a frame that is due in the row before the first payload, and one in that row
abbrev pub early_leg : Leg
early_leg = record worked_leg {
  items = item 0 (Add 0) ∷ item 39 (Frame (replicate 64 0)) ∷ item 40 (Frame (replicate 64 1)) ∷ [];
}

abbrev pub early_counts : Counts
early_counts = record {
  ticks = 100;
  frames = 2;
  commands = 1;
  lines = record { carried = 100; popped = 100 } ∷ record { carried = 100; popped = 100 } ∷ [];
  rows = 100;
  backs = 5;
}

-- a line that fails alone, and is never added
abbrev pub lone_leg : Leg
lone_leg = record { config = plain ((unused_window ∷ []) ∷ []) 4 1 100; items = []; tells = [] }
