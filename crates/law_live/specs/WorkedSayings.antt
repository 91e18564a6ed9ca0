-- Worked conversations, computed: the windows and the items of their scripts, and how many rounds their ticks take.
use Rattle.std.specs.Prelude.{ℕ, List, [], ◌∷◌, map}
use Rattle.law_model.specs.declared.script_types.Item.{Item}
use Rattle.law_model.specs.declared.script_types.ItemKind.TheVariants.{Frame, Add}
use Rattle.law_model.specs.declared.window_types.Window.{Window}
use Rattle.law_model.specs.Common.{Plan, command_due, frame_due}
use Rattle.law_progress.specs.WorkedPlans.{fine}
use Rattle.law_live.specs.LiveSayings.{Saying, lands, cuts, mends, passes, Live, uncut, windows_by, live_from}

-- ---- what scripts they make
-- lines with these failures that are known beforehand
abbrev pub lines_with : List (List Window) → Live
lines_with lists = record { passed = 0; courses = map uncut lists; items = [] }

abbrev pub windows_after : List (List Window) → List Saying → List (List Window)
windows_after lists said =
    map (windows_by (live_from (lines_with lists) said).passed) (live_from (lines_with lists) said).courses

abbrev pub dues_after : List (List Window) → List Saying → List ℕ
dues_after lists said = map (λ (item : Item). item.due) (live_from (lines_with lists) said).items

abbrev pub window : ℕ → ℕ → ℕ → Window
window first end slip = record { first = first; end = end; slip = slip }

-- a frame before a line is cut, one while it is, and two after it was mended
abbrev pub one_cut : List Saying
one_cut =
    lands (Add 0) ∷ passes 100 ∷ lands (Frame []) ∷ passes 3 ∷ cuts 0 ∷ lands (Frame []) ∷ passes 9 ∷ mends 0
    ∷ passes 25 ∷ lands (Frame []) ∷ passes 1 ∷ lands (Frame []) ∷ passes 6 ∷ []

-- a line that is cut and mended in one tick, and cut again until the end
abbrev pub cut_and_mended : List Saying
cut_and_mended =
    lands (Add 0) ∷ passes 50 ∷ cuts 0 ∷ mends 0 ∷ lands (Frame []) ∷ passes 1 ∷ cuts 0 ∷ lands (Frame [])
    ∷ passes 9 ∷ []

-- two lines, of which the second has a failure that is known beforehand
abbrev pub known_failures : List (List Window)
known_failures = [] ∷ (window 300 310 2 ∷ []) ∷ []

abbrev pub two_lines : List Saying
two_lines =
    lands (Add 0) ∷ passes 310 ∷ cuts 1 ∷ passes 6 ∷ cuts 0 ∷ mends 1 ∷ passes 1 ∷ mends 0 ∷ cuts 0 ∷ mends 0
    ∷ passes 9 ∷ cuts 1 ∷ []

-- a line that is cut for three ticks of sixty
abbrev pub three_ticks : List Saying
three_ticks = lands (Add 0) ∷ passes 50 ∷ cuts 0 ∷ passes 3 ∷ mends 0 ∷ passes 7 ∷ []

-- ---- how many rounds they take
-- one line without delay, whose receive ring holds one cell, at the least lag
abbrev pub least_plan : Plan
least_plan = record {
  ticks = 60;
  ring = 1;
  lag = 1;
  items = command_due 0 ∷ frame_due 40 ∷ [];
  paths = fine 60 0 ∷ [];
}

abbrev pub short_talk : List Saying
short_talk = lands (Add 0) ∷ passes 40 ∷ lands (Frame []) ∷ passes 1 ∷ []

-- the same for longer, with nothing that lands
abbrev pub idle_plan : Plan
idle_plan = record { ticks = 110; ring = 1; lag = 1; items = []; paths = fine 110 0 ∷ [] }

abbrev pub idle_talk : List Saying
idle_talk = passes 100 ∷ passes 1 ∷ []

-- two lines, the second with a delay of five ticks
abbrev pub delayed_plan : Plan
delayed_plan = record {
  ticks = 110;
  ring = 6;
  lag = 2;
  items = command_due 0 ∷ frame_due 100 ∷ [];
  paths = fine 110 0 ∷ fine 110 5 ∷ [];
}

abbrev pub delayed_talk : List Saying
delayed_talk = lands (Add 0) ∷ passes 100 ∷ lands (Frame []) ∷ passes 5 ∷ passes 1 ∷ []
