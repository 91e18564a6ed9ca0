-- A worked session whose timers cost the most that they can: a line that fails goes out, and comes back.
use Rattle.std.specs.Prelude.{ℕ, false, List, [], ◌∷◌, ◌++◌, map}
use Rattle.law_model.specs.Common.{Scenario, active_at, session_cells}
use Rattle.law_model.specs.declared.lcas_states.Command.TheVariants.{Add as add}
use Rattle.law_session.specs.ComputedSessions.{damaged, order, scenario_for}

-- of two lines line 1 fails for 457 containers; the lag is two packets, a hold-off takes four of them and a restore six
abbrev pub dearest : Scenario
dearest =
    record (scenario_for 2 1400 ([] ∷ damaged 488 945 ∷ []) (order 0 (add 0) ∷ order 0 (add 1) ∷ [])) {
      options = record { infers = false; holdoff = 3; restore = 5; statuses = 16 };
    }

-- the lines that carry payload in some rows
abbrev pub carried_in_rows : Scenario → List ℕ → List (List ℕ)
carried_in_rows scenario rows = map (active_at scenario (session_cells scenario)) rows

-- of two lines line 1 fails for 16 containers, of packets 63 and 64
abbrev pub held_line : ℕ → Scenario
held_line holdoff =
    record (scenario_for 1 1400 ([] ∷ damaged 1024 1040 ∷ []) (order 0 (add 0) ∷ order 0 (add 1) ∷ [])) {
      options = record { infers = false; holdoff = holdoff; restore = 0; statuses = 16 };
    }

-- of two lines line 1 fails for ten containers, of which the first is the last one of packet 63
abbrev pub ten_fail : Scenario
ten_fail = scenario_for 1 1400 ([] ∷ damaged 1031 1041 ∷ []) (order 0 (add 0) ∷ order 0 (add 1) ∷ [])

-- of two lines line 1 fails five times for 100 containers, each 400 containers after the one before
abbrev pub flapping : Scenario
flapping =
    scenario_for 1 4000
    ([]
    ∷ (damaged 1000 1100 ++ damaged 1400 1500 ++ damaged 1800 1900 ++ damaged 2200 2300 ++ damaged 2600 2700)
    ∷ [])
    (order 0 (add 0) ∷ order 0 (add 1) ∷ [])
