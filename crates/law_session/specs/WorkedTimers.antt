-- Worked sessions with timers, computed.
use Rattle.std.specs.Prelude.{ℕ, ◌+◌, false, List, [], ◌∷◌, None}
use Rattle.law_model.specs.Common.{Scenario, member_of}
use Rattle.law_model.specs.declared.lcas_states.Command.TheVariants.{Add as add}
use Rattle.law_model.specs.declared.lcas_states.Standing.TheVariants.{Add as adding, Norm as normal, Dnu as unused}
use Rattle.law_session.specs.ComputedSessions.{Shown, order, damaged, scenario_for, failing_line}

abbrev pub with_timers : ℕ → ℕ → Scenario → Scenario
with_timers holdoff restore scenario =
    record scenario { options = record { infers = false; holdoff = holdoff; restore = restore; statuses = 16 } }

-- the failure of the second line spoils three packets, 63 to 65: a hold-off of one packet is too short for it, and it
-- goes out and comes back as with none
abbrev pub short_holdoff : Scenario
short_holdoff = with_timers 1 0 failing_line

abbrev pub short_holdoff_shown : List Shown
short_holdoff_shown =
    (64, member_of 0 normal ∷ member_of 1 normal ∷ [], None, 0)
    ∷ (65, member_of 0 normal ∷ member_of 1 unused ∷ [], None, 0)
    ∷ (80, member_of 0 normal ∷ member_of 1 unused ∷ [], None, 0)
    ∷ (81, member_of 0 normal ∷ member_of 1 normal ∷ [], None, 0) ∷ []

-- with one of two packets the line is down in packet 65 alone, in which nothing is said of it: so it stays in use
abbrev pub long_holdoff : Scenario
long_holdoff = with_timers 2 0 failing_line

abbrev pub long_holdoff_shown : List Shown
long_holdoff_shown =
    (65, member_of 0 normal ∷ member_of 1 normal ∷ [], None, 0)
    ∷ (97, member_of 0 normal ∷ member_of 1 normal ∷ [], None, 0) ∷ []

-- where it has to be read for sixteen packets in turn, it comes back a round of statuses later
abbrev pub long_restore : Scenario
long_restore = with_timers 0 15 failing_line

abbrev pub long_restore_shown : List Shown
long_restore_shown =
    (65, member_of 0 normal ∷ member_of 1 unused ∷ [], None, 0)
    ∷ (96, member_of 0 normal ∷ member_of 1 unused ∷ [], None, 0)
    ∷ (97, member_of 0 normal ∷ member_of 1 normal ∷ [], None, 0) ∷ []

-- a line is added while the second one is held: the change ends what it said last, so it goes out and comes back
abbrev pub held_over_change : Scenario
held_over_change =
    with_timers 20 0
    (scenario_for 1 1500 ([] ∷ damaged 1000 1060 ∷ [] ∷ [])
    (order 0 (add 0) ∷ order 0 (add 1) ∷ order 1000 (add 2) ∷ []))

abbrev pub held_over_change_shown : List Shown
held_over_change_shown =
    (62, member_of 0 normal ∷ member_of 1 normal ∷ member_of 2 adding ∷ [], None, 1)
    ∷ (65, member_of 0 normal ∷ member_of 1 unused ∷ member_of 2 normal ∷ [], None, 1)
    ∷ (81, member_of 0 normal ∷ member_of 1 normal ∷ member_of 2 normal ∷ [], None, 1) ∷ []

-- two lines are in use by packet 17 where 16 return packets tell all statuses, and by packet 33 where 32 do
abbrev pub slow_statuses : ℕ → Scenario
slow_statuses statuses =
    record (scenario_for 1 700 ([] ∷ [] ∷ []) (order 0 (add 0) ∷ order 0 (add 1) ∷ [])) {
      options = record { infers = false; holdoff = 0; restore = 0; statuses = statuses };
    }

abbrev pub slow_statuses_shown : ℕ → List Shown
slow_statuses_shown first =
    (first, member_of 0 normal ∷ member_of 1 adding ∷ [], None, 0)
    ∷ (first + 1, member_of 0 normal ∷ member_of 1 normal ∷ [], None, 0) ∷ []
