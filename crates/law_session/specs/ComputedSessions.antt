-- Worked sessions, computed.
use Rattle.std.specs.Prelude.{ℕ, ◌%◌, List, [], ◌∷◌, map, Option, Some, None}
use Rattle.law_model.specs.Common.{DueCommand, Scenario, default_options, member_of, table_of, session_cells, vc4_size}
use Rattle.law_model.specs.declared.window_types.Window.{Window}
use Rattle.law_model.specs.declared.lcas_states.Command.{Command}
use Rattle.law_model.specs.declared.lcas_states.Member.{Member}
use Rattle.law_model.specs.declared.lcas_states.Command.TheVariants.{Add as add, Remove as remove}
use Rattle.law_model.specs.declared.lcas_states.Standing.TheVariants.{Add as adding, Norm as normal, Dnu as unused}

abbrev pub order : ℕ → Command → DueCommand
order due command = record { due = due; command = command }

-- containers from a number on and before another are damaged
abbrev pub damaged : ℕ → ℕ → List Window
damaged first end = record { first = first; «end» = end; slip = 0 } ∷ []

abbrev pub scenario_for : ℕ → ℕ → List (List Window) → List DueCommand → Scenario
scenario_for lag ticks windows orders = record {
  lag = lag;
  ticks = ticks;
  size = vc4_size;
  windows = windows;
  lost = [];
  orders = orders;
  offers = [];
  tells = [];
  options = default_options;
}

-- what a packet shows: its number, the lines by SQ, the line in REMOVE, and CHG
abbrev pub Shown : Type 0
Shown = ℕ × List Member × Option ℕ × ℕ

abbrev pub shown : Scenario → ℕ → Shown
shown scenario k =
    let table = table_of scenario (session_cells scenario) k in (k, table.order, table.leaving, table.count % 2)

-- what the packets of these numbers show
abbrev pub shown_in : Scenario → List Shown → List Shown
shown_in scenario packets = map (λ packet. shown scenario packet.0) packets

-- three lines are added; line 1 is removed at tick 600
abbrev pub three_lines : Scenario
three_lines =
    scenario_for 1 700 ([] ∷ [] ∷ [] ∷ [])
    (order 0 (add 0) ∷ order 0 (add 1) ∷ order 0 (add 2) ∷ order 600 (remove 1) ∷ [])

abbrev pub three_lines_shown : List Shown
three_lines_shown =
    (1, member_of 0 normal ∷ member_of 1 adding ∷ [], None, 0)
    ∷ (2, member_of 0 normal ∷ member_of 1 adding ∷ member_of 2 adding ∷ [], None, 1)
    ∷ (33, member_of 0 normal ∷ member_of 1 normal ∷ member_of 2 normal ∷ [], None, 1)
    ∷ (37, member_of 0 normal ∷ member_of 2 normal ∷ [], Some 1, 0) ∷ []

-- the only line is removed and another one added, lag 4: no status of before the change is used for the new line
abbrev pub other_line : Scenario
other_line = scenario_for 4 1100 ([] ∷ [] ∷ []) (order 0 (add 0) ∷ order 552 (remove 0) ∷ order 552 (add 1) ∷ [])

abbrev pub other_line_shown : List Shown
other_line_shown =
    (34, [], Some 0, 0) ∷ (36, [], Some 0, 0) ∷ (38, member_of 1 adding ∷ [], None, 1)
    ∷ (51, member_of 1 adding ∷ [], None, 1) ∷ (52, member_of 1 normal ∷ [], None, 1) ∷ []

-- a failure of the second line and its end
abbrev pub failing_line : Scenario
failing_line = scenario_for 1 1600 ([] ∷ damaged 1024 1048 ∷ []) (order 0 (add 0) ∷ order 0 (add 1) ∷ [])

abbrev pub failing_line_shown : List Shown
failing_line_shown =
    (33, member_of 0 normal ∷ member_of 1 normal ∷ [], None, 0)
    ∷ (65, member_of 0 normal ∷ member_of 1 unused ∷ [], None, 0)
    ∷ (97, member_of 0 normal ∷ member_of 1 normal ∷ [], None, 0) ∷ []

-- the first line is never read: the second is brought forward in packet 17 and in use in packet 33, 30 packets and
-- twice the lag after
-- it was added
abbrev pub silent_line : Scenario
silent_line = scenario_for 1 600 (damaged 0 600 ∷ [] ∷ []) (order 0 (add 0) ∷ order 0 (add 1) ∷ [])

abbrev pub silent_line_shown : List Shown
silent_line_shown =
    (1, member_of 0 adding ∷ member_of 1 adding ∷ [], None, 0)
    ∷ (17, member_of 1 adding ∷ member_of 0 adding ∷ [], None, 1)
    ∷ (32, member_of 1 adding ∷ member_of 0 adding ∷ [], None, 1)
    ∷ (33, member_of 1 normal ∷ member_of 0 adding ∷ [], None, 1) ∷ []
