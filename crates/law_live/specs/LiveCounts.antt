-- The counts of a session that is told live. An item lands when it is said; some ticks pass by rounds, until they are
-- made.
use Rattle.std.specs.Prelude.{ℕ, zero, suc, ◌+◌, nat_le, List, [], ◌∷◌, if◌then◌else◌}
use Rattle.law_model.specs.Common.{Leg, Plan, Counts, step, run, begin, bound, carries_from}
use Rattle.law_model.specs.declared.walk_events.Event.{Event}
use Rattle.law_model.specs.declared.walk_events.Event.TheVariants.{Accept, Command, Tick}
use Rattle.law_model.specs.declared.script_types.ItemKind.{ItemKind}
use Rattle.law_walk.specs.Common.{is_client, walk_plan}
use Rattle.law_live.specs.LiveSayings.{Saying, lands, cuts, mends, passes}

-- ---- rounds
-- a tick, a carry of each line, a return packet and a row, each one try
abbrev pub live_round : Plan → Counts → Counts
live_round plan s = run plan s (Tick ∷ carries_from 0 plan.paths)

unfoldable pub after_rounds : ℕ → Plan → Counts → Counts
after_rounds zero plan s = s
after_rounds (suc n) plan s = after_rounds n plan (live_round plan s)

-- how many rounds it takes until so many ticks are made, where it takes no more than k
unfoldable pub rounds_until : ℕ → Plan → ℕ → Counts → ℕ
rounds_until zero plan ticks s = 0
rounds_until (suc k) plan ticks s =
    if nat_le ticks s.ticks then 0 else suc (rounds_until k plan ticks (live_round plan s))

-- until k more are made: a walk never takes more rounds than its bound
abbrev pub rounds_for : ℕ → Plan → Counts → ℕ
rounds_for k plan s = rounds_until (bound plan) plan (s.ticks + k) s

-- ---- a saying
abbrev pub landing_of : ItemKind → Event
landing_of kind = if is_client kind then Accept else Command

abbrev pub rounds_said : Plan → Counts → Saying → ℕ
rounds_said plan s (lands kind) = 0
rounds_said plan s (cuts m) = 0
rounds_said plan s (mends m) = 0
rounds_said plan s (passes k) = rounds_for k plan s

abbrev pub counts_said : Plan → Counts → Saying → Counts
counts_said plan s (lands kind) = (step plan s (landing_of kind)).counts
counts_said plan s (cuts m) = s
counts_said plan s (mends m) = s
counts_said plan s (passes k) = after_rounds (rounds_for k plan s) plan s

-- ---- one saying after another
unfoldable pub counts_from : Plan → Counts → List Saying → Counts
counts_from plan s [] = s
counts_from plan s (saying ∷ said) = counts_from plan (counts_said plan s saying) said

unfoldable pub rounds_from : Plan → Counts → List Saying → ℕ
rounds_from plan s [] = 0
rounds_from plan s (saying ∷ said) = rounds_said plan s saying + rounds_from plan (counts_said plan s saying) said

-- in a leg
abbrev pub live_counts : Leg → List Saying → Counts
live_counts leg said = counts_from (walk_plan leg) (begin (walk_plan leg)) said

abbrev pub rounds_of : Leg → List Saying → ℕ
rounds_of leg said = rounds_from (walk_plan leg) (begin (walk_plan leg)) said
