-- Events that are tried again and again.
use Rattle.std.specs.Prelude.{ℕ, List, [], ◌∷◌, Contains, replicate, flat_map}
use Rattle.law_model.specs.Common.{Plan, Counts, run, begin}
use Rattle.law_model.specs.declared.walk_events.Event.{Event}
use Rattle.law_model.specs.declared.walk_events.Event.TheVariants.{Accept, Tick, Carry, Back, Take, Command}
use Rattle.law_progress.specs.Progress.{HasLine}
use Rattle.law_progress.specs.WorkedPlans.{one_line, two_items}

-- events in which each event of a walk is tried once at least, in whatever order and however often
abbrev pub TriesEach : Plan → List Event → Type 0
TriesEach plan events = (event : Event) → HasLine plan event → Contains events event

-- turns of events, one after the other
abbrev pub in_turn : List (List Event) → List Event
in_turn turns = flat_map (λ (turn : List Event). turn) turns

-- the counts after them
abbrev pub after_turns : Plan → List (List Event) → Counts
after_turns plan turns = run plan (begin plan) (in_turn turns)

-- ---- a worked walk of one line and two items
abbrev pub walked_plan : Plan
walked_plan = one_line 1 two_items

-- a turn that tries the events in the order that is the least use
abbrev pub backwards : List Event
backwards = Take ∷ Back ∷ Carry 0 ∷ Tick ∷ Command ∷ Accept ∷ []

-- and one that leaves out the return packets
abbrev pub without_back : List Event
without_back = Accept ∷ Command ∷ Tick ∷ Carry 0 ∷ Take ∷ []

abbrev pub rows_after : ℕ → List Event → ℕ
rows_after count turn = (after_turns walked_plan (replicate count turn)).rows
